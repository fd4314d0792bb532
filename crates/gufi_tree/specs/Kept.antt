-- What a tree keeps beside its directories: where parents and subdirectories are.
use Rattle.std.specs.Prelude.{◌≡◌, ℕ, zero, suc, ◌+◌, ◌<◌, ◌≤◌, ◌^◌, not, ◌==◌, ◌&&◌, List, [], ◌∷◌, length, slice_index, slice_index_or, Some, if◌then◌else◌}
use Rattle.std.specs.List.{flat_map}
use Rattle.gufi_base.specs.Paths.{parent_path}
use Rattle.gufi_tree.specs.declared.tree.DirId.{DirId}
use Rattle.gufi_tree.specs.Tree.{Directory, own_rows, place_of, HasTreeShape}
use Rattle.gufi_tree.specs.Places.{dir_id, path_at}

-- the place of the parent of each directory; the root's is its own
pub record HasParents (tree : List Directory) (parents : List ℕ) : Type 0 where
  pub len : length parents ≡ length tree
  pub each : (k : ℕ) → k < length tree → place_of tree (parent_path (path_at tree k)) ≡ Some (slice_index parents k)

-- a parent's place is one of the list
abbrev pub AreWithin : List ℕ → Type 0
AreWithin parents = (k : ℕ) → k < length parents → slice_index parents k < length parents

-- the places, from a first one on and other than 0, at which this parent stands
abbrev pub ids_under : ℕ → ℕ → List ℕ → List DirId
ids_under parent k [] = []
ids_under parent k (p ∷ rest) = if (p == parent) && not (k == 0) then dir_id k ∷ ids_under parent (k + 1) rest else ids_under parent (k + 1) rest

-- where those of a parent begin, when they stand together, one parent's after another's
abbrev pub first_under : List ℕ → ℕ → ℕ
first_under parents zero = 0
first_under parents (suc k) = first_under parents k + length (ids_under k 0 parents)

-- The subdirectories of all directories stand in one list, from the start of each directory's to the next start.
pub record IsLaidOut (parents starts : List ℕ) (ids : List DirId) : Type 0 where
  pub len : length starts ≡ length parents + 1
  pub begin : (k : ℕ) → k ≤ length parents → slice_index starts k ≡ first_under parents k
  pub room : first_under parents (length parents) ≤ length ids
  pub each : (k m : ℕ) (d : DirId) → k < length parents → m < length (ids_under k 0 parents) → slice_index_or ids (first_under parents k + m) d ≡ slice_index_or (ids_under k 0 parents) m d

-- The directories are those of a tree, and what is kept beside them is theirs.
pub record IsKept (tree : List Directory) (places : List ℕ) : Type 0 where
  pub shape : HasTreeShape tree
  pub few : length tree < 2 ^ 32
  pub rows : length (flat_map own_rows tree) < 2 ^ 32
  pub parents : HasParents tree places
