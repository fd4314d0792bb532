use Rattle.std.proofs.Common.{◌≤◌, length}
use Rattle.gufi_roll.specs.Below.{AreBelow}
use Rattle.gufi_roll.proofs.below.all_below.Given as goal

abbrev pub invariant-loop-left : goal.invariant-loop-left
invariant-loop-left l = record {
  within : l.left ≤ length l.tree;
  below : AreBelow l.tree l.left l.found.items;
}

abbrev pub decreases-loop-left : goal.decreases-loop-left
decreases-loop-left l = l.left
