use Rattle.std.proofs.Common.{◌≡◌, length, All, Contains}
use Rattle.gufi_phases.specs.Lanes.{AreNumbered}
use Rattle.gufi_phases.proofs.replies.in_order.Given as goal

abbrev pub invariant-loop-number : goal.invariant-loop-number
invariant-loop-number g l = record {
  numbered : AreNumbered 1 l.ordered.items;
  long : length l.ordered.items ≡ l.number;
  left : All (Contains l.fn.rows.items) l.rows.items;
  taken : All (Contains l.fn.rows.items) l.ordered.items;
}
