use Rattle.std.proofs.Common.{map}
use Rattle.std.specs.Arc.{arc_value}
use Rattle.gufi_sums.specs.Blocks.{AreKept}
use Rattle.gufi_sums.proofs.blocks.marked_blocks.Given as goal

abbrev pub invariant-loop-number : goal.invariant-loop-number
invariant-loop-number l = AreKept (map arc_value l.blocks) l.marks (map arc_value l.kept.items) l.number
