-- Which directories are rolled up under a limit.
use Rattle.std.specs.Prelude.{ℕ, Bool, not, ◌&&◌, ◌||◌, nat_le, List, [], ◌++◌, length, filter, map, sum_by, zip, codes, decimal}
use Rattle.std.specs.List.{list_all, list_any}
use Rattle.gufi_base.specs.Basics.{line}
use Rattle.gufi_base.specs.Paths.{Components, is_prefix, is_proper_prefix, is_child_of}
use Rattle.gufi_access.specs.Tried.{covers}
use Rattle.gufi_tree.specs.Tree.{Directory, rights_of, subtree_rows}
use Rattle.gufi_roll.specs.declared.report.RollReport.{RollReport}

-- how many rows have their home at the path or below it
abbrev pub rows_below : List Directory → Components → ℕ
rows_below tree path = length (subtree_rows tree path)

-- the directory's parent covers it
abbrev pub is_covered : List Directory → Directory → Bool
is_covered tree dir = list_all (λ parent. not (is_child_of parent.path dir.path) || covers (rights_of parent.rec) (rights_of dir.rec)) tree

-- every directory below the path is covered by its parent, and the rows at and below it are at most the limit
abbrev pub can_roll : List Directory → ℕ → Components → Bool
can_roll tree limit path =
    list_all (λ dir. not (is_proper_prefix path dir.path) || is_covered tree dir) tree && nat_le (rows_below tree path) limit

-- one flag for each directory
abbrev pub roll_flags : List Directory → ℕ → List Bool
roll_flags tree limit = map (λ dir. can_roll tree limit dir.path) tree

-- one of these directories is at or below the start and above the path
abbrev pub is_under : List Directory → Components → Components → Bool
is_under dirs start path = list_any (λ dir. is_prefix start dir.path && is_proper_prefix dir.path path) dirs

-- so is a rolled one
abbrev pub is_under_fold : List Directory → Components → ℕ → Components → Bool
is_under_fold tree start limit path = is_under (filter (λ dir. can_roll tree limit dir.path) tree) start path

-- the directories whose flag is set
abbrev pub rolled_dirs : List Directory → List Bool → List Directory
rolled_dirs tree flags = map (λ pair. pair.0) (filter (λ pair. pair.1) (zip tree flags))

-- the rolled directories without a rolled proper ancestor
abbrev pub top_dirs : List Directory → List Directory
top_dirs rolled = filter (λ dir. not (is_under rolled [] dir.path)) rolled

-- what a tree's flags come to
abbrev pub roll_report : List Directory → List Bool → RollReport
roll_report tree flags =
    let rolled = rolled_dirs tree flags in
    record {
      dirs = length tree;
      rolled = length rolled;
      tops = length (top_dirs rolled);
      rows = sum_by (λ dir. rows_below tree dir.path) (top_dirs rolled);
    }

abbrev pub report_text : RollReport → List ℕ
report_text r = line (codes "rolled " ++ decimal r.rolled ++ codes " of " ++ decimal r.dirs ++ codes " tops " ++ decimal r.tops ++ codes " rows " ++ decimal r.rows)
