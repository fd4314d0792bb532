-- Flags of a tree of which some are known, as they are forgotten.
use Rattle.std.specs.Prelude.{◌≡◌, ◌⊎◌, ℕ, ◌≤◌, ◌<◌, Bool, false, List, length, slice_index_or, Option, None, Some}
use Rattle.gufi_base.specs.Paths.{Components, is_prefix}
use Rattle.gufi_tree.specs.Tree.{Directory}
use Rattle.gufi_tree.specs.Places.{path_at}
use Rattle.gufi_roll.specs.CanRoll.{can_roll}

-- A flag that is known is the directory's, but maybe for directories before a place that lead to a path.
pub record AreKnownBut (tree : List Directory) (limit : ℕ) (path : Components) (from : ℕ) (known : List (Option Bool)) : Type 0 where
  pub len : length known ≡ length tree
  pub each : (place : ℕ) (flag : Bool) → place < length tree → (from ≤ place) ⊎ (is_prefix (path_at tree place) path ≡ false) → slice_index_or known place None ≡ Some flag → flag ≡ can_roll tree limit (path_at tree place)
