use Rattle.std.proofs.Common.{◌≡◌, drop, map}
use Rattle.gufi_roll.specs.CanRoll.{roll_flags}
use Rattle.gufi_image.specs.Reading.{wrong_flag}
use Rattle.gufi_image.specs.Views.{nearer}
use Rattle.gufi_image.proofs.reader.flags_hold.Given as goal

abbrev pub invariant-loop-number : goal.invariant-loop-number
invariant-loop-number l = wrong_flag (drop l.number (roll_flags l.snap.tree l.snap.limit)) (drop l.number (map (nearer l.room) l.flags)) ≡ wrong_flag (roll_flags l.snap.tree l.snap.limit) (map (nearer l.room) l.flags)
