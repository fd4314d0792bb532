-- The tree that a generated trace means.
use Rattle.std.specs.Prelude.{ℕ, List}
use Rattle.gufi_base.specs.Basics.{sort_by}
use Rattle.gufi_tree.specs.Tree.{Directory, dir_cmp}
use Rattle.gufi_gen.specs.Generated.{made_dirs}

-- the generated directories in path order
unfoldable pub made_tree : ℕ → List Directory
made_tree n = sort_by dir_cmp (made_dirs n)
