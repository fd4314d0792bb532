-- Where the directories at and below one end.
use Rattle.std.specs.Prelude.{◌≡◌, ℕ, ◌<◌, ◌≤◌, true, false, List, length}
use Rattle.gufi_base.specs.Paths.{is_prefix}
use Rattle.gufi_tree.specs.Tree.{Directory}
use Rattle.gufi_tree.specs.Places.{path_at}

-- a directory at or below the one at a place, behind which there is no other
pub record IsLastBelow (tree : List Directory) (at last : ℕ) : Type 0 where
  pub order : at ≤ last
  pub within : last < length tree
  pub below : is_prefix (path_at tree at) (path_at tree last) ≡ true
  pub none : (k : ℕ) → last < k → k < length tree → is_prefix (path_at tree at) (path_at tree k) ≡ false
