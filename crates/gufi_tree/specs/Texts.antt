-- Lines by the kept texts of their paths.
use Rattle.std.specs.Prelude.{ℕ, Bool, not, ◌&&◌, if◌then◌else◌, List, Option, Some, None, bytes_eq}
use Rattle.std.specs.List.{list_all}
use Rattle.std.specs.Borrow.{Bor}
use Rattle.std.specs.HashSet.{HashSet, contains_by}
use Rattle.gufi_base.specs.declared.record.Line.{Line}
use Rattle.gufi_base.specs.Basics.{is_empty}
use Rattle.gufi_base.specs.Names.{is_name}
use Rattle.gufi_base.specs.Paths.{parent_path}
use Rattle.gufi_base.specs.PathTexts.{kept_text}
use Rattle.gufi_tree.specs.declared.fault.TreeFault.{TreeFault}
use Rattle.gufi_tree.specs.declared.fault.TreeFault.TheVariants.{Duplicate, Orphan}
use Rattle.gufi_tree.specs.Build.{is_dir_line}

-- the set has the text
abbrev pub has_text : {S : Type 0} → HashSet (Bor (List ℕ)) S → List ℕ → Bool
has_text set text = contains_by (λ key. bytes_eq text key.now) set

-- each path's names are names
abbrev pub are_named : List Line → Bool
are_named lines = list_all (λ line. list_all is_name line.path) lines

-- the line's path has the text
abbrev pub has_path_text : List ℕ → Line → Bool
has_path_text text line = bytes_eq text (kept_text line.path)

abbrev pub has_dir_text : List ℕ → Line → Bool
has_dir_text text line = is_dir_line line && has_path_text text line

-- the fault of a line, by tests for the texts of earlier lines and of directories
abbrev pub is_orphan_by : (List ℕ → Bool) → Line → Bool
is_orphan_by dirs line =
    if is_empty line.path then not (is_dir_line line) else not (dirs (kept_text (parent_path line.path)))

abbrev pub fault_by : (List ℕ → Bool) → (List ℕ → Bool) → Line → Option TreeFault
fault_by seen dirs line =
    if seen (kept_text line.path) then Some (Duplicate line.number)
    else if is_orphan_by dirs line then Some (Orphan line.number)
    else None
