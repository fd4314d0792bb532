use Rattle.std.proofs.Common.{◌≡◌, take}
use Rattle.gufi_base.specs.Basics.{distinct}
use Rattle.gufi_find.proofs.numbers.NumberSet.of.Given as goal

abbrev pub invariant-numbers : goal.invariant-numbers
invariant-numbers l = l.set.keys ≡ distinct (take l.number-index l.numbers)
