use Rattle.std.proofs.Common.{◌≡◌, ◌∷◌, take}
use Rattle.gufi_base.specs.Basics.{distinct}
use Rattle.gufi_users.proofs.place.distinct_numbers.Given as goal

abbrev pub invariant-others : goal.invariant-others
invariant-others l = l.numbers.keys ≡ distinct (l.first ∷ take l.number-index l.others)
