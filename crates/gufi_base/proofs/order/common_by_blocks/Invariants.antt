use Rattle.std.proofs.Common.{◌≡◌, ◌-◌, ◌≤◌, take}
use Rattle.gufi_base.proofs.order.common_by_blocks.Given as goal

abbrev pub invariant-by_blocks : goal.invariant-by_blocks
invariant-by_blocks g l = record {
  alike : take l.same l.a ≡ take l.same l.b;
  within : l.same ≤ l.least;
}

abbrev pub decreases-by_blocks : goal.decreases-by_blocks
decreases-by_blocks g l = l.least - l.same
