-- Sums by places, as they are made.
use Rattle.std.specs.Prelude.{◌≡◌, ◌⊎◌, ℕ, false, ◌≤◌, ◌<◌, List, length, slice_index_or}
use Rattle.gufi_base.specs.Paths.{Components, is_prefix}
use Rattle.gufi_tree.specs.Tree.{Directory, own_rows}
use Rattle.gufi_tree.specs.Places.{path_at}
use Rattle.gufi_tree.proofs.Kids.{rows_under}
use Rattle.gufi_sums.specs.declared.summary.Summary.{Summary}
use Rattle.gufi_sums.specs.SumLists.{SumLists}
use Rattle.gufi_sums.specs.Total.{IsTotal}

-- each is the sum of the own rows of the directory at its place
pub record AreOwn (tree : List Directory) (sums : List Summary) : Type 0 where
  pub len : length sums ≡ length tree
  pub each : (k : ℕ) (d : Directory) (s : Summary) → k < length tree → IsTotal (slice_index_or sums k s) (own_rows (slice_index_or tree k d))

-- from a place on, each is the sum of the rows at and below the directory at its place
abbrev pub AreUnderFrom : List Directory → ℕ → List Summary → Type 0
AreUnderFrom tree from sums = (k : ℕ) (s : Summary) → from ≤ k → k < length tree → IsTotal (slice_index_or sums k s) (rows_under tree (path_at tree k))

-- The sums of all directories' own rows, and from a place on of the rows at and below them; before it the own rows' sums stand for both.
pub record AreSumsFrom (tree : List Directory) (from : ℕ) (sums : SumLists) : Type 0 where
  pub own : AreOwn tree sums.own
  pub len : length sums.below ≡ length tree
  pub under : AreUnderFrom tree from sums.below
  pub before : (k : ℕ) (s : Summary) → k < from → slice_index_or sums.below k s ≡ slice_index_or sums.own k s

-- The sums of all directories' own rows; and of the rows at and below each directory, but for those before a place that lead to a path.
pub record AreSumsBut (tree : List Directory) (path : Components) (from : ℕ) (sums : SumLists) : Type 0 where
  pub own : AreOwn tree sums.own
  pub len : length sums.below ≡ length tree
  pub each : (k : ℕ) (s : Summary) → k < length tree → (from ≤ k) ⊎ (is_prefix (path_at tree k) path ≡ false) → IsTotal (slice_index_or sums.below k s) (rows_under tree (path_at tree k))
