use Rattle.std.proofs.Common.{◌≡◌, ◌++◌}
use Rattle.gufi_stats.specs.Grouped.{group_lines}
use Rattle.gufi_stats.specs.Labels.{label_text}
use Rattle.gufi_stats.proofs.sums.lines_of.Given as goal

abbrev pub invariant-loop-number : goal.invariant-loop-number
invariant-loop-number l = l.text.items ++ group_lines (label_text l.label) l.number-iterator ≡ group_lines (label_text l.label) l.sums.entries
