use Rattle.std.proofs.Common.{◌≡◌}
use Rattle.gufi_tree.specs.Stored.{directories_of}
use Rattle.gufi_tree.proofs.lines.keep_all.Given as goal

abbrev pub invariant-loop-dir : goal.invariant-loop-dir
invariant-loop-dir l = l.dirs ≡ directories_of l.yielded
