use Rattle.std.proofs.Common.{◌≡◌, false, take}
use Rattle.gufi_image.specs.Widths.{entries_need}
use Rattle.gufi_image.proofs.width.entries_need.Given as goal

abbrev pub invariant-loop-place : goal.invariant-loop-place
invariant-loop-place l = entries_need l.width (take l.place l.entries) ≡ false
