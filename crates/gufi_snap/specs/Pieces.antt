-- The pieces in which a walk meets the rows.
use Rattle.std.specs.Prelude.{ℕ, not, ◌&&◌, List, [], filter, map, if◌then◌else◌}
use Rattle.gufi_base.specs.declared.record.Row.{Row}
use Rattle.gufi_base.specs.Paths.{Components}
use Rattle.gufi_access.specs.declared.class.Principal.{Principal}
use Rattle.gufi_tree.specs.Tree.{Directory, subtree_rows, home_rows, subdirs, may_list}
use Rattle.gufi_tree.specs.Listed.{is_listed}
use Rattle.gufi_roll.specs.CanRoll.{can_roll, is_under_fold}
use Rattle.gufi_sums.specs.declared.summary.Summary.{Summary}
use Rattle.gufi_sums.specs.Total.{total}

-- the listed directories with no rolled proper ancestor at or below the start
abbrev pub front : List Directory → Principal → Components → ℕ → List Components
front tree who start limit =
    filter (λ path. is_listed tree who start path && not (is_under_fold tree start limit path)) (map (λ dir. dir.path) tree)

-- the rows at and below a rolled directory, else the directory's own
abbrev pub piece : List Directory → Components → ℕ → List Row
piece tree path limit = if can_roll tree limit path then subtree_rows tree path else home_rows tree path

-- the sums of the rows at and below a directory, and of its own
abbrev pub tree_sum : List Directory → Components → Summary
tree_sum tree path = total (subtree_rows tree path)

abbrev pub dir_sum : List Directory → Components → Summary
dir_sum tree path = total (home_rows tree path)

-- no kids of a rolled directory, else the subdirectories that the principal lists
abbrev pub kids : List Directory → Principal → Components → ℕ → List Components
kids tree who path limit =
    if can_roll tree limit path then [] else map (λ dir. dir.path) (filter (may_list who) (subdirs tree path))
