-- Paths whose lines are a text, one behind the other.
use Rattle.std.specs.Prelude.{◌≡◌, ℕ, ◌<◌, List, length, take, All, slice_index_or}
use Rattle.std.specs.List.{flat_map}
use Rattle.gufi_rows.specs.declared.spot.Spot.{Spot}
use Rattle.gufi_base.specs.Paths.{Components}
use Rattle.gufi_rows.specs.PathLists.{IsSpot, paths_in}
use Rattle.gufi_rows.specs.PathLines.{path_line}

abbrev pub lines_of : List Components → List ℕ
lines_of paths = flat_map path_line paths

-- each line begins behind those before it
pub record AreLines (text : List ℕ) (spots : List Spot) : Type 0 where
  pub each : All (IsSpot text) spots
  pub whole : text ≡ lines_of (paths_in text spots)
  pub starts : (k : ℕ) (d : Spot) → k < length spots → (slice_index_or spots k d).stem.from ≡ length (lines_of (take k (paths_in text spots)))
