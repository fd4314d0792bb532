-- Where a walk goes on from a directory, by places.
use Rattle.std.specs.Prelude.{ℕ, ◌==◌, ◌-◌, ◌&&◌, ◌||◌, not, nat_le, Bool, List, [], ◌∷◌, filter, map, length, Option, Some, None, if◌then◌else◌}
use Rattle.std.specs.List.{list_any, flat_map, range_with_len}
use Rattle.gufi_base.specs.declared.record.Row.{Row}
use Rattle.gufi_base.specs.Paths.{Components, path_eq, is_prefix}
use Rattle.gufi_base.specs.Rows.{depth_below}
use Rattle.gufi_access.specs.declared.class.Principal.{Principal}
use Rattle.gufi_sums.specs.declared.summary.Summary.{Summary}
use Rattle.gufi_sums.specs.Depths.{is_within, goes_below}
use Rattle.gufi_sums.specs.Total.{total}
use Rattle.gufi_tree.specs.declared.tree.DirId.{DirId}
use Rattle.gufi_tree.specs.Tree.{Directory, may_list}
use Rattle.gufi_tree.specs.Places.{path_at, child_ids}
use Rattle.gufi_roll.specs.CanRoll.{can_roll}
use Rattle.gufi_snap.specs.Pieces.{front, piece, tree_sum}
use Rattle.gufi_walk.specs.Answer.{shown}

-- the directory of the path may be listed
abbrev pub lists_at : List Directory → Principal → Components → Bool
lists_at tree who path = list_any (λ dir. path_eq dir.path path && may_list who dir) tree

-- the subdirectories that may be listed, of a directory that isn't rolled up
abbrev pub open_ids : List Directory → Principal → Components → List DirId
open_ids tree who path = filter (λ id. lists_at tree who (path_at tree id.0)) (child_ids tree path)

abbrev pub kid_ids : List Directory → Principal → Components → ℕ → List DirId
kid_ids tree who path limit = if can_roll tree limit path then [] else open_ids tree who path

-- the path lies no deeper below a start than the bound, where there is one
abbrev pub lies_within : Option ℕ → ℕ → Components → Bool
lies_within deepest above path = is_within deepest (length path - above)

-- those of the paths that do
abbrev pub no_deeper : Option ℕ → ℕ → List Components → List Components
no_deeper None above paths = paths
no_deeper (Some most) above paths = filter (lies_within (Some most) above) paths

-- those of a front
abbrev pub front_within : Option ℕ → List Directory → Principal → Components → ℕ → List Components
front_within deepest tree who start limit = no_deeper deepest (length start) (front tree who start limit)

-- those of the paths whose pieces a test of sums doesn't pass over
abbrev pub not_passed : (Summary → Bool) → List Directory → ℕ → List Components → List Components
not_passed skips tree limit paths = filter (λ path. not (skips (total (piece tree path limit)))) paths

-- those of a front that lie no deeper than a bound
abbrev pub front_met : (Summary → Bool) → Option ℕ → List Directory → Principal → Components → ℕ → List Components
front_met skips deepest tree who start limit = not_passed skips tree limit (front_within deepest tree who start limit)

-- this user may list every directory
abbrev pub sees_all : Principal → Bool
sees_all who = who.uid == 0

-- the test passes over all rows at and below the directory, by a sum that counts no row which this user can't list
abbrev pub is_ruled_out : (Summary → Bool) → List Directory → Principal → Components → Bool
is_ruled_out skips tree who path = sees_all who && skips (tree_sum tree path)

-- where a walk goes on that goes no deeper than a bound, nor below what is ruled out
abbrev pub next_ids : (Summary → Bool) → Option ℕ → ℕ → List Directory → Principal → Components → ℕ → List DirId
next_ids skips deepest above tree who path limit =
    if goes_below deepest (length path - above) && not (is_ruled_out skips tree who path) then kid_ids tree who path limit else []

-- at most so many directories are at and below it, or what is below lies too deep, or they are all ruled out: then its task takes them all, and has no kids
abbrev pub is_whole : (Summary → Bool) → Option ℕ → ℕ → List Directory → Principal → ℕ → Components → Bool
is_whole skips deepest above tree who grain path =
    nat_le (tree_sum tree path).dirs grain || not (goes_below deepest (length path - above)) || is_ruled_out skips tree who path

-- the members of the front that one task takes, where some take all that is at and below their directory
abbrev pub task_dirs : (Components → Bool) → List Directory → Principal → ℕ → Components → List Components
task_dirs takes_all tree who limit path = if takes_all path then front tree who path limit else path ∷ []

-- the tasks that a task brings forth
abbrev pub task_kids : (Components → Bool) → List Directory → Principal → ℕ → ℕ → List ℕ
task_kids takes_all tree who limit k = if takes_all (path_at tree k) then [] else map (λ id. id.0) (kid_ids tree who (path_at tree k) limit)

-- the directories at or below the start that may be listed: all that can be tasks
abbrev pub open_places : List Directory → Principal → Components → List ℕ
open_places tree who start = filter (λ k. is_prefix start (path_at tree k) && lists_at tree who (path_at tree k)) (range_with_len 0 (length tree))

-- the rows of a piece as they are shown
abbrev pub shown_piece : List Directory → Principal → ℕ → Components → List Row
shown_piece tree who limit path = map (shown who) (piece tree path limit)

-- the rows that one task adds
abbrev pub task_rows : (Components → Bool) → List Directory → Principal → ℕ → (Row → Bool) → ℕ → List Row
task_rows takes_all tree who limit met k = filter met (flat_map (shown_piece tree who limit) (task_dirs takes_all tree who limit (path_at tree k)))

-- the row meets the question at its depth
abbrev pub meets : (Row → ℕ → Bool) → ℕ → Row → Bool
meets asks above row = asks row (depth_below above row)
