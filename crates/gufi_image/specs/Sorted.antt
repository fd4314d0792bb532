-- Directories each with its entries in name order.
use Rattle.std.specs.Prelude.{◌≡◌, ℕ, List, slice_get, Some, IsTrue}
use Rattle.std.specs.List.{list_all}
use Rattle.gufi_base.specs.Basics.{ascends}
use Rattle.gufi_tree.specs.Tree.{Directory, entry_cmp}

abbrev pub AreSorted : List Directory → Type 0
AreSorted dirs = IsTrue (list_all (λ dir. ascends entry_cmp dir.entries) dirs)

-- the directory at a place
pub record IsParent (dirs : List Directory) (number : ℕ) (parent : Directory) : Type 0 where
  pub there : slice_get dirs number ≡ Some parent
  pub sorted : IsTrue (ascends entry_cmp parent.entries)
