use Rattle.gufi_line.specs.Pairs.{AreFirstPairs}
use Rattle.gufi_line.proofs.digits.DigitPairs.new.Given as goal

abbrev pub invariant-loop-place : goal.invariant-loop-place
invariant-loop-place l = AreFirstPairs l.separator l.values.items l.place
