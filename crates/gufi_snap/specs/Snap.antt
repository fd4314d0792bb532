-- What a snapshot is seen as: a tree, and the limit of its roll-up.
use Rattle.std.specs.Prelude.{ℕ, List}
use Rattle.gufi_tree.specs.Tree.{Directory}

pub record Snap : Type 0 where
  pub tree : List Directory
  pub limit : ℕ
