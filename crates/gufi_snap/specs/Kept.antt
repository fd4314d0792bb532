-- What a snapshot keeps beside its tree under every limit: sums, or none.
use Rattle.std.specs.Prelude.{◌≡◌, ◌<◌, ◌^◌, List, length, Option}
use Rattle.std.specs.List.{flat_map}
use Rattle.std.specs.Option.{ForSome}
use Rattle.gufi_tree.specs.Tree.{Directory, own_rows, HasTreeShape}
use Rattle.gufi_sums.specs.SumLists.{SumLists}
use Rattle.gufi_snap.specs.SumsByPlace.{AreOwn, AreUnderFrom}

-- What is kept beside a tree is its own: the sums of each directory's own rows, and of the rows at and below it.
pub record IsContents (tree : List Directory) (sums : SumLists) : Type 0 where
  pub shape : HasTreeShape tree
  pub few : length (flat_map own_rows tree) < 2 ^ 32
  pub own : AreOwn tree sums.own
  pub len : length sums.below ≡ length tree
  pub under : AreUnderFrom tree 0 sums.below

-- The same of a tree that may be kept without sums.
pub record IsKept (tree : List Directory) (sums : Option SumLists) : Type 0 where
  pub shape : HasTreeShape tree
  pub few : length (flat_map own_rows tree) < 2 ^ 32
  pub kept : ForSome sums (IsContents tree)
