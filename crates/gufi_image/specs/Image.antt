-- The bytes of an index image. Its version is the least that can hold the tree.
use Rattle.std.specs.Prelude.{ℕ, ◌-◌, ◌^◌, Bool, true, false, List, [], ◌++◌, length, unwrap_or, if◌then◌else◌}
use Rattle.std.specs.List.{flat_map}
use Rattle.gufi_base.specs.declared.record.Rec.{Rec}
use Rattle.gufi_base.specs.Basics.{is_empty, last_of}
use Rattle.gufi_base.specs.Kinds.{kind_letter}
use Rattle.gufi_base.specs.Paths.{Components, parent_path}
use Rattle.gufi_tree.specs.declared.tree.Entry.{Entry}
use Rattle.gufi_tree.specs.Tree.{Directory, place_of, entry_count}
use Rattle.gufi_roll.specs.CanRoll.{can_roll}
use Rattle.gufi_image.specs.Bytes.{magic, u8_bytes, u16_bytes, u32_bytes, u64_bytes, name_image, record_image}
use Rattle.gufi_image.specs.declared.width.Width.{Width}
use Rattle.gufi_image.specs.Widths.{version_of, width_of}

unfoldable pub entry_image : Width → Entry → List ℕ
entry_image width entry = u8_bytes (kind_letter entry.rec.meta.kind) ++ (name_image entry.name ++ record_image width entry.rec)

abbrev pub entries_image : Width → List Entry → List ℕ
entries_image width entries = flat_map (entry_image width) entries

-- the parent's place from 0, or all ones for the root's parent
abbrev pub parent_number : List Directory → Components → ℕ
parent_number tree path = if is_empty path then 2 ^ 32 - 1 else unwrap_or (place_of tree (parent_path path)) 0

abbrev pub flag_byte : Bool → ℕ
flag_byte true = 1
flag_byte false = 0

-- a directory of these parts
unfoldable pub parts_image : Width → ℕ → Bool → Components → Rec → List Entry → List ℕ
parts_image width parent flag path rec entries =
    u32_bytes parent ++ (name_image (last_of [] path) ++ (u8_bytes (flag_byte flag) ++ (record_image width rec ++ (u32_bytes (length entries) ++ entries_image width entries))))

-- a directory of a tree, with its flag by the rule of roll-up
abbrev pub directory_image : Width → List Directory → ℕ → Directory → List ℕ
directory_image width tree limit dir = parts_image width (parent_number tree dir.path) (can_roll tree limit dir.path) dir.path dir.rec dir.entries

abbrev pub directories_image : Width → List Directory → ℕ → List Directory → List ℕ
directories_image width tree limit dirs = flat_map (directory_image width tree limit) dirs

unfoldable pub head_image : Width → List Directory → ℕ → List ℕ
head_image width tree limit = magic ++ (u16_bytes (version_of width) ++ (u64_bytes limit ++ (u32_bytes (length tree) ++ u32_bytes (entry_count tree))))

unfoldable pub image_text : List Directory → ℕ → List ℕ
image_text tree limit = head_image (width_of tree) tree limit ++ directories_image (width_of tree) tree limit tree
