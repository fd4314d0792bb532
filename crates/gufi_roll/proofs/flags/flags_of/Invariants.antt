use Rattle.std.proofs.Common.{◌≡◌, take}
use Rattle.gufi_roll.specs.CanRoll.{roll_flags}
use Rattle.gufi_roll.proofs.flags.flags_of.Given as goal

abbrev pub invariant-loop-below : goal.invariant-loop-below
invariant-loop-below l = l.flags.items ≡ take l.below-index (roll_flags l.tree l.limit)
