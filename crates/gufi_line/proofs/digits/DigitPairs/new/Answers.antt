use Rattle.gufi_line.proofs.Pairs.{pair_pushed}
use Rattle.gufi_line.proofs.digits.DigitPairs.new.Goals as goal

pub loop-place-preserved : goal.loop-place-preserved
loop-place-preserved c = rw c.in_ok-push.ensures.items (pair_pushed c.args.separator c.loop-place.values.items c.loop-place.place c.value_of.result c.loop-place.invariant c.value_of.ensures)
