use Rattle.std.proofs.Common.{◌≡◌, take}
use Rattle.gufi_image.specs.Widths.{width_of}
use Rattle.gufi_image.proofs.width.width_of.Given as goal

abbrev pub invariant-loop-number : goal.invariant-loop-number
invariant-loop-number l = l.widest ≡ width_of (take l.number l.tree)
