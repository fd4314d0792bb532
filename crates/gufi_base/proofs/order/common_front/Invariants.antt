use Rattle.std.proofs.Common.{◌≡◌, ◌-◌, ◌≤◌, take}
use Rattle.gufi_base.proofs.order.common_front.Given as goal

abbrev pub invariant-by_bytes : goal.invariant-by_bytes
invariant-by_bytes l = record {
  alike : take l.same l.a ≡ take l.same l.b;
  within : l.same ≤ l.least;
}

abbrev pub decreases-by_bytes : goal.decreases-by_bytes
decreases-by_bytes l = l.least - l.same
