use Rattle.std.proofs.Common.{◌≡◌, take}
use Rattle.gufi_stats.specs.Grouped.{number_of, grouped}
use Rattle.gufi_stats.proofs.by_key.groups_of.Given as goal

abbrev pub invariant-loop-row : goal.invariant-loop-row
invariant-loop-row l = l.groups ≡ grouped (number_of l.key) (take l.row-index l.rows)
