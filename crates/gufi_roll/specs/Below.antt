-- What is known at and below a directory.
use Rattle.std.specs.Prelude.{◌≡◌, ℕ, ◌≤◌, ◌<◌, Bool, false, not, ◌&&◌, ◌||◌, List, [], filter, take, length, slice_index_or, Option, None, Some}
use Rattle.std.specs.List.{list_all, flat_map}
use Rattle.gufi_base.specs.Paths.{Components, is_proper_prefix}
use Rattle.gufi_access.specs.Tried.{covers}
use Rattle.gufi_tree.specs.declared.tree.DirId.{DirId}
use Rattle.gufi_tree.specs.Tree.{Directory, rights_of, own_rows}
use Rattle.gufi_tree.specs.Places.{path_at}
use Rattle.gufi_roll.specs.declared.report.RollReport.{RollReport}
use Rattle.gufi_roll.specs.declared.below.Below.{Below}
use Rattle.gufi_roll.specs.CanRoll.{rows_below, is_covered, can_roll, roll_flags, is_under, rolled_dirs}

-- every directory below the path is covered by its parent
abbrev pub are_covered : List Directory → Components → Bool
are_covered tree path = list_all (λ dir. not (is_proper_prefix path dir.path) || is_covered tree dir) tree

-- The rows at and below the directory at a place, and whether all directories below it are covered.
pub record IsBelow (tree : List Directory) (place : ℕ) (below : Below) : Type 0 where
  pub rows : below.rows ≡ rows_below tree (path_at tree place)
  pub covered : below.covered ≡ are_covered tree (path_at tree place)

-- The same of the directories from a place on.
pub record AreBelow (tree : List Directory) (from : ℕ) (found : List Below) : Type 0 where
  pub len : length found ≡ length tree
  pub each : (place : ℕ) (d : Below) → from ≤ place → place < length tree → IsBelow tree place (slice_index_or found place d)

-- The flags are those of some limit.
pub record AreFlags (tree : List Directory) (flags : List Bool) : Type 0 where
  pub limit : ℕ
  pub same : flags ≡ roll_flags tree limit

-- What is counted of the directories before a place: all, the rolled ones, those of them under none, and the rows of the rolled ones.
pub record IsReport (tree : List Directory) (flags : List Bool) (place : ℕ) (report : RollReport) : Type 0 where
  pub dirs : report.dirs ≡ length tree
  pub rolled : report.rolled ≡ length (rolled_dirs (take place tree) (take place flags))
  pub tops : report.tops ≡ length (filter (λ dir. not (is_under (rolled_dirs tree flags) [] dir.path)) (rolled_dirs (take place tree) (take place flags)))
  pub rows : report.rows ≡ length (flat_map own_rows (rolled_dirs (take place tree) (take place flags)))

-- There is a place for each directory, and a flag that is known is the directory's.
pub record AreKnown (tree : List Directory) (limit : ℕ) (known : List (Option Bool)) : Type 0 where
  pub len : length known ≡ length tree
  pub each : (place : ℕ) (flag : Bool) → place < length tree → slice_index_or known place None ≡ Some flag → flag ≡ can_roll tree limit (path_at tree place)

-- The flags of the directories from a place on.
pub record AreFlagsFrom (tree : List Directory) (limit from : ℕ) (flags : List Bool) : Type 0 where
  pub len : length flags ≡ length tree
  pub each : (place : ℕ) → from ≤ place → place < length tree → slice_index_or flags place false ≡ can_roll tree limit (path_at tree place)

-- a subdirectory's flag is set, and its directory covers it
abbrev pub is_child_flagged : List Directory → List Bool → ℕ → Directory → DirId → Bool
is_child_flagged tree flags place d id =
    slice_index_or flags id.0 false && covers (rights_of (slice_index_or tree place d).rec) (rights_of (slice_index_or tree id.0 d).rec)
