use Rattle.std.proofs.Common.{◌≤◌, length}
use Rattle.gufi_snap.specs.SumsByPlace.{AreSumsFrom}
use Rattle.gufi_snap.proofs.sums.add_below.Given as goal

abbrev pub invariant-loop-left : goal.invariant-loop-left
invariant-loop-left l = record {
  within : l.left ≤ length l.tree;
  sums : AreSumsFrom l.tree l.left l.sums;
}

abbrev pub decreases-loop-left : goal.decreases-loop-left
decreases-loop-left l = l.left
