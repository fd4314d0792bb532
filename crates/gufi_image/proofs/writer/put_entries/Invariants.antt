use Rattle.std.proofs.Common.{◌≡◌, ◌++◌, take}
use Rattle.gufi_image.specs.Image.{entries_image}
use Rattle.gufi_image.proofs.writer.put_entries.Given as goal

abbrev pub invariant-loop-place : goal.invariant-loop-place
invariant-loop-place l = l.out.items ≡ l.fn.out.items ++ entries_image l.width (take l.place l.entries)
