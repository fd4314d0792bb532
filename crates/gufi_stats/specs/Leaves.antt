-- Directories below others.
use Rattle.std.specs.Prelude.{ℕ, Bool, not, ◌&&◌, List, [], if◌then◌else◌}
use Rattle.std.specs.List.{list_any}
use Rattle.gufi_base.specs.declared.record.Row.{Row}
use Rattle.gufi_base.specs.Paths.{path_text, is_proper_prefix}
use Rattle.gufi_base.specs.Rows.{is_dir_row}
use Rattle.gufi_base.specs.Basics.{line}
pub use Rattle.gufi_stats.specs.Reports.{leaf_lines}

-- one of the rows is a directory below the row
abbrev pub is_above_any : Row → List Row → Bool
is_above_any row rows = list_any (λ other. is_dir_row other && is_proper_prefix row.path other.path) rows

-- the path of a row that is a leaf, by the rows behind it, and else nothing
abbrev pub leaf_line : Row → List Row → List ℕ
leaf_line row behind = if is_dir_row row && not (is_above_any row behind) then line (path_text row.path) else []
