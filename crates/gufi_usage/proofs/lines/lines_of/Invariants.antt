use Rattle.std.proofs.Common.{◌≡◌, take}
use Rattle.std.specs.List.{flat_map}
use Rattle.gufi_usage.specs.Near.{line_of}
use Rattle.gufi_usage.proofs.lines.lines_of.Given as goal

abbrev pub invariant-loop-dir : goal.invariant-loop-dir
invariant-loop-dir l = l.text.items ≡ flat_map (line_of l.tree) (take l.dir-index l.found)
