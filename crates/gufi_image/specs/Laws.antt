-- The laws of images. A public function's contract has to name each.
use Rattle.std.specs.Prelude.{◌≡◌, ◌<◌, ◌^◌, IsTrue, not, ℕ, List, Ok}
use Rattle.std.specs.List.{flat_map, list_all}
use Rattle.gufi_base.specs.Paths.{is_too_long}
use Rattle.gufi_base.specs.Rows.{are_bytes}
use Rattle.gufi_tree.specs.Tree.{Directory, own_rows, is_program_tree, is_too_large}
use Rattle.gufi_snap.specs.Snap.{Snap}
use Rattle.gufi_image.specs.Image.{image_text}
use Rattle.gufi_image.specs.Reading.{image_means}

-- What an image may hold: a tree with records of the program's types, within the limits, and a limit of 64 bits.
pub record IsWritable (tree : List Directory) (limit : ℕ) : Type 0 where
  pub sound : IsTrue (is_program_tree tree)
  pub few : IsTrue (not (is_too_large tree))
  pub short : IsTrue (list_all (λ row. not (is_too_long row.path)) (flat_map own_rows tree))
  pub fits : limit < 2 ^ 64

-- What is written is read back.
abbrev pub ImagesReadBack : Type 0
ImagesReadBack = (tree : List Directory) (limit : ℕ) → IsWritable tree limit → image_means (image_text tree limit) ≡ Ok (record { tree = tree; limit = limit })

-- Bytes mean a snapshot only where they are its image.
abbrev pub ImagesHaveOneSpelling : Type 0
ImagesHaveOneSpelling = (bytes : List ℕ) (snap : Snap) → IsTrue (are_bytes bytes) → image_means bytes ≡ Ok snap → bytes ≡ image_text snap.tree snap.limit

-- What bytes mean can be written.
abbrev pub ReadImagesAreWritable : Type 0
ReadImagesAreWritable = (bytes : List ℕ) (snap : Snap) → IsTrue (are_bytes bytes) → image_means bytes ≡ Ok snap → IsWritable snap.tree snap.limit
