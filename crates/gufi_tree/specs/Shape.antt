-- How directories that stand in path order are seen to be a tree.
use Rattle.std.specs.Prelude.{◌≡◌, ℕ, ◌-◌, ◌<◌, Bool, false, List, [], length, slice_index_or, IsTrue}
use Rattle.std.specs.List.{list_all}
use Rattle.std.specs.Ordering.{is_lt}
use Rattle.std.specs.List.Sorted.{IsPermutation}
use Rattle.gufi_base.specs.Basics.{ascends}
use Rattle.gufi_base.specs.Paths.{path_cmp, base_name, is_child_of}
use Rattle.gufi_tree.specs.Tree.{Directory, entry_cmp, has_entry_named, HasTreeShape}
use Rattle.gufi_tree.specs.Places.{path_at}
use Rattle.gufi_tree.specs.Kept.{HasParents}

-- in each directory the names of the entries ascend
abbrev pub are_distinct : List Directory → Bool
are_distinct tree = list_all (λ dir. ascends entry_cmp dir.entries) tree

-- The directory at a place is above the one before it, and lies in the one at another place, of which no entry has its name.
pub record IsSoundBelow (tree : List Directory) (place parent : ℕ) : Type 0 where
  pub within : parent < length tree
  pub above : IsTrue (is_lt (path_cmp (path_at tree (place - 1)) (path_at tree place)))
  pub child : IsTrue (is_child_of (path_at tree parent) (path_at tree place))
  pub free : (d : Directory) → has_entry_named (base_name (path_at tree place)) (slice_index_or tree parent d) ≡ false

-- the same, and the first is the root, which lies in itself
pub record IsSoundAt (tree : List Directory) (place parent : ℕ) : Type 0 where
  pub root : place ≡ 0 → (parent ≡ 0) × (path_at tree 0 ≡ [])
  pub below : 0 < place → IsSoundBelow tree place parent

-- The directories are those of a tree, and their parents stand at these places.
pub record IsTreeWith (tree : List Directory) (parents : List ℕ) : Type 0 where
  pub shape : HasTreeShape tree
  pub places : HasParents tree parents

-- the same, and they are these directories in another order
pub record IsOrdered (dirs ordered : List Directory) (parents : List ℕ) : Type 0 where
  pub moved : IsPermutation dirs ordered
  pub tree : IsTreeWith ordered parents
