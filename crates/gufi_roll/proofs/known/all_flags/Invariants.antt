use Rattle.std.proofs.Common.{◌≤◌, length}
use Rattle.gufi_roll.specs.Below.{AreFlagsFrom}
use Rattle.gufi_roll.proofs.known.all_flags.Given as goal

abbrev pub invariant-loop-left : goal.invariant-loop-left
invariant-loop-left l = record {
  within : l.left ≤ length l.tree;
  flags : AreFlagsFrom l.tree l.limit l.left l.flags.items;
}

abbrev pub decreases-loop-left : goal.decreases-loop-left
decreases-loop-left l = l.left
