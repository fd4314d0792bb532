-- Reports over rows in path order.
use Rattle.std.specs.Prelude.{ℕ, Bool, not, ◌==◌, ◌&&◌, List, ◌++◌, Option, length, map, filter, codes}
use Rattle.std.specs.List.{flat_map, list_any}
use Rattle.std.specs.Ordering.{nat_cmp}
use Rattle.gufi_base.specs.declared.record.Row.{Row}
use Rattle.gufi_base.specs.Basics.{distinct, sort_by, line}
use Rattle.gufi_base.specs.Paths.{Components, path_text, is_proper_prefix}
use Rattle.gufi_base.specs.Rows.{is_dir_row, depth_below}
use Rattle.gufi_sums.specs.Counts.{counts_text}
use Rattle.gufi_sums.specs.Total.{total}
use Rattle.gufi_users.specs.Entries.{UserTables}
use Rattle.gufi_stats.specs.Labels.{level_label, uid_label, gid_label}
use Rattle.gufi_stats.specs.declared.report.Report.{Report}
use Rattle.gufi_stats.specs.declared.report.Report.TheVariants.{Levels, Uids, Gids, Leaves}

-- a line for each number, ascending, that a row has under the key
abbrev pub group_line : (ℕ → List ℕ) → (Row → ℕ) → List Row → ℕ → List ℕ
group_line label key rows n = line (label n ++ codes " " ++ counts_text (total (filter (λ row. key row == n) rows)))

unfoldable pub by_key : (ℕ → List ℕ) → (Row → ℕ) → List Row → List ℕ
by_key label key rows = flat_map (group_line label key rows) (sort_by nat_cmp (distinct (map key rows)))

-- the directories below which no row is a directory
abbrev pub is_leaf : List Row → Row → Bool
is_leaf rows row = is_dir_row row && not (list_any (λ other. is_dir_row other && is_proper_prefix row.path other.path) rows)

abbrev pub leaf_lines : List Row → List ℕ
leaf_lines rows = flat_map (λ row. line (path_text row.path)) (filter (is_leaf rows) rows)

-- owners and groups in the order of their numbers, and by name where there are tables: two may be told alike
abbrev pub stats_text : Option UserTables → List Row → Components → Report → List ℕ
stats_text names rows start Levels = by_key level_label (depth_below (length start)) rows
stats_text names rows start Uids = by_key (uid_label names) (λ row. row.rec.meta.uid) rows
stats_text names rows start Gids = by_key (gid_label names) (λ row. row.rec.meta.gid) rows
stats_text names rows start Leaves = leaf_lines rows
