use Rattle.std.proofs.Common.{length, ◌-◌}
use Rattle.gufi_tree.specs.Reached.{IsReached}
use Rattle.gufi_tree.proofs.resolve.resolve_text.Given as goal

abbrev pub invariant-loop-offset : goal.invariant-loop-offset
invariant-loop-offset l = IsReached l.dirs l.who l.text l.offset l.place

abbrev pub decreases-loop-offset : goal.decreases-loop-offset
decreases-loop-offset l = length l.text - l.offset
