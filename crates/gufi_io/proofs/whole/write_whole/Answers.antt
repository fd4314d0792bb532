use Rattle.std.proofs.Common.{arith}
use Rattle.gufi_io.proofs.Fronts.{TakesUpTo-more}
use Rattle.gufi_io.proofs.whole.write_whole.Goals as goal

pub loop-rest-preserved : goal.loop-rest-preserved
loop-rest-preserved g c = record {
  faults = omega (arith, c.in-Ok.ensures.cause.later);
  upto = rw c.split_at.ensures.back (TakesUpTo-more _ _ _ _ _ _ c.loop-rest.invariant.upto c.in-Ok.ensures.bytes);
}
