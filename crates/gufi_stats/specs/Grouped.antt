-- The sums of rows by a number, as they are kept.
use Rattle.std.specs.Prelude.{ℕ, ◌==◌, List, ◌++◌, length, map, filter, unwrap_or, codes}
use Rattle.std.specs.List.{flat_map, sum_by}
use Rattle.std.specs.Map.{lookup}
use Rattle.std.specs.Ordering.{nat_cmp, is_eq}
use Rattle.gufi_base.specs.declared.record.Meta.{Meta}
use Rattle.gufi_base.specs.declared.record.Row.{Row}
use Rattle.gufi_base.specs.Rows.{depth_below}
use Rattle.gufi_base.specs.Basics.{distinct, sort_by, line}
use Rattle.gufi_sums.specs.declared.summary.Summary.{Summary}
use Rattle.gufi_sums.specs.Counts.{counts_text}
use Rattle.gufi_sums.specs.Total.{total_of, empty, rows_in}
use Rattle.gufi_stats.specs.declared.by_key.Key.{Key}
use Rattle.gufi_stats.specs.declared.by_key.Key.TheVariants.{Level, Uid, Gid}

abbrev pub number_of : Key → Row → ℕ
number_of (Level above) row = depth_below above row
number_of Uid row = row.rec.meta.uid
number_of Gid row = row.rec.meta.gid

-- numbers that a row has wherever it is asked from
abbrev pub depth : Row → ℕ
depth row = length row.path

abbrev pub uid : Row → ℕ
uid row = row.rec.meta.uid

abbrev pub gid : Row → ℕ
gid row = row.rec.meta.gid

-- the sum of rows whose records are seen in some way
unfoldable pub total_seen : (Meta → Meta) → List Row → Summary
total_seen seen rows = total_of (map (λ row. seen row.rec.meta) rows)

-- the sum of the rows that have a number
abbrev pub group_sum : (Meta → Meta) → (Row → ℕ) → List Row → ℕ → Summary
group_sum seen key rows n = total_seen seen (filter (λ row. key row == n) rows)

-- the numbers that a row has, ascending
abbrev pub numbers : (Row → ℕ) → List Row → List ℕ
numbers key rows = sort_by nat_cmp (distinct (map key rows))

-- each number that a row has, ascending, with its sum
unfoldable pub grouped_seen : (Meta → Meta) → (Row → ℕ) → List Row → List (ℕ × Summary)
grouped_seen seen key rows = map (λ n. (n, group_sum seen key rows n)) (numbers key rows)

-- the same where each record is seen as it is
abbrev pub grouped : (Row → ℕ) → List Row → List (ℕ × Summary)
grouped key rows = grouped_seen (λ meta. meta) key rows

-- how many rows are in the sums
abbrev pub rows_counted : List (ℕ × Summary) → ℕ
rows_counted groups = sum_by (λ group. rows_in group.1) groups

-- the sum that stands at a number
abbrev pub sum_in : List (ℕ × Summary) → ℕ → Summary
sum_in groups n = unwrap_or (lookup (λ m. is_eq (nat_cmp n m)) groups) empty

-- the counts behind what tells the number
abbrev pub sum_line : (ℕ → List ℕ) → ℕ × Summary → List ℕ
sum_line label group = line (label group.0 ++ codes " " ++ counts_text group.1)

abbrev pub group_lines : (ℕ → List ℕ) → List (ℕ × Summary) → List ℕ
group_lines label groups = flat_map (sum_line label) groups
