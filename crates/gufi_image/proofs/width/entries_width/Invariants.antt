use Rattle.std.proofs.Common.{◌≡◌, take}
use Rattle.gufi_image.specs.Widths.{entries_width}
use Rattle.gufi_image.proofs.width.entries_width.Given as goal

abbrev pub invariant-loop-place : goal.invariant-loop-place
invariant-loop-place l = l.widest ≡ entries_width (take l.place l.entries)
