use Rattle.std.proofs.Common.{◌≡◌, ◌++◌, map}
use Rattle.gufi_agg.specs.Grouped.{group_from}
use Rattle.gufi_agg.proofs.groups.groups_of.Given as goal

abbrev pub invariant-loop-number : goal.invariant-loop-number
invariant-loop-number l = l.groups.items ++ map group_from l.number-iterator ≡ map group_from l.sums.entries
