use Rattle.std.proofs.Common.{◌≡◌, take}
use Rattle.gufi_sums.proofs.shared.SharedSums.again.Given as goal

abbrev pub invariant-loop-place : goal.invariant-loop-place
invariant-loop-place l = l.again ≡ record { own = take l.place (l.self).own; below = take l.place (l.self).below }
