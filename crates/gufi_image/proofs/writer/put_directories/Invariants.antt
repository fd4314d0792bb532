use Rattle.std.proofs.Common.{◌≡◌, ◌++◌, take}
use Rattle.gufi_image.specs.Image.{directories_image}
use Rattle.gufi_image.proofs.writer.put_directories.Given as goal

abbrev pub invariant-loop-number : goal.invariant-loop-number
invariant-loop-number l = l.out.items ≡ l.fn.out.items ++ directories_image l.width l.snap.tree l.snap.limit (take l.number l.snap.tree)
