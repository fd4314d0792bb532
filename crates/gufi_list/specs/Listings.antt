-- The mode string, and the texts of ls.
use Rattle.std.specs.Prelude.{ℕ, ◌+◌, Bool, not, ◌==◌, ◌&&◌, ◌||◌, List, [], ◌∷◌, ◌++◌, filter, if◌then◌else◌, codes, decimal}
use Rattle.std.specs.Fmt.{signed_decimal}
use Rattle.std.specs.Int.{bit_at}
use Rattle.std.specs.List.{flat_map, join_with_byte, starts_with}
use Rattle.std.specs.Option.{unwrap_or}
use Rattle.std.specs.Bool.{nat_eq}
use Rattle.gufi_base.specs.declared.record.Kind.{Kind}
use Rattle.gufi_base.specs.declared.record.Meta.{Meta}
use Rattle.gufi_base.specs.declared.record.Row.{Row}
use Rattle.gufi_base.specs.Kinds.{kind_letter, is_file, is_link}
use Rattle.gufi_base.specs.Paths.{base_name}
use Rattle.gufi_base.specs.Basics.{line}
use Rattle.gufi_users.specs.Entries.{UserTables}
use Rattle.gufi_users.specs.Users.{name_of_uid, name_of_gid}

-- ---- the mode string

abbrev pub has_bit : ℕ → ℕ → Bool
has_bit mode bit = bit_at mode bit == 1

-- `-` for a file, and else the letter of its type
abbrev pub list_letter : Kind → ℕ
list_letter kind = if is_file kind then 45 else kind_letter kind

-- the letter where the bit is set, and else `-`
abbrev pub flag : ℕ → ℕ → ℕ → ℕ
flag mode bit letter = if has_bit mode bit then letter else 45

-- the execute place: x by its bit, or by a special bit one of the special letters, with execute and without
abbrev pub execute : ℕ → ℕ → ℕ → ℕ → ℕ → ℕ
execute mode bit special with without =
    if has_bit mode special then (if has_bit mode bit then with else without) else flag mode bit 120

-- r, w, and the execute place
abbrev pub triple : ℕ → ℕ → ℕ → ℕ → ℕ → List ℕ
triple mode low special with without =
    flag mode (low + 2) 114 ∷ flag mode (low + 1) 119 ∷ execute mode low special with without ∷ []

-- the letter of the type, and the places of owner, group and others, whose special letters are s and S twice, and t and T
unfoldable pub mode_text : Meta → List ℕ
mode_text meta =
    list_letter meta.kind ∷ triple meta.mode 6 11 115 83 ++ triple meta.mode 3 10 115 83 ++ triple meta.mode 0 9 116 84

-- ---- ls

abbrev pub owner_text : UserTables → ℕ → List ℕ
owner_text tables uid = unwrap_or (name_of_uid tables uid) (decimal uid)

abbrev pub group_text : UserTables → ℕ → List ℕ
group_text tables gid = unwrap_or (name_of_gid tables gid) (decimal gid)

abbrev pub target_text : Meta → List ℕ → List ℕ
target_text m link = if is_link m.kind then codes " -> " ++ link else []

abbrev pub long_text : UserTables → Meta → List ℕ → List ℕ → List ℕ
long_text tables m name link =
    join_with_byte 32 (mode_text m ∷ decimal m.nlink ∷ owner_text tables m.uid ∷ group_text tables m.gid ∷ decimal m.size ∷ signed_decimal m.mtime ∷ name ∷ [])
    ++ target_text m link

-- the line of a record, a name and the target of a link
abbrev pub record_line : UserTables → Bool → Meta → List ℕ → List ℕ → List ℕ
record_line tables long m name link = line (if long then long_text tables m name link else name)

abbrev pub ls_line : UserTables → Bool → Row → List ℕ
ls_line tables long row = record_line tables long row.rec.meta (base_name row.path) row.rec.link

-- names that begin with a dot only where all are wanted
abbrev pub is_hidden : List ℕ → Bool
is_hidden name = starts_with nat_eq name (codes ".")

abbrev pub is_name_shown : Bool → List ℕ → Bool
is_name_shown all name = all || not (is_hidden name)

abbrev pub is_shown : Bool → Row → Bool
is_shown all row = is_name_shown all (base_name row.path)

abbrev pub ls_text : List Row → UserTables → Bool → Bool → List ℕ
ls_text rows tables long all = flat_map (ls_line tables long) (filter (is_shown all) rows)

-- what ls asks of a row: one level below the start, and shown
abbrev pub ls_asks : Bool → Row → ℕ → Bool
ls_asks all row depth = depth == 1 && is_shown all row
