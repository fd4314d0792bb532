use Rattle.std.proofs.Common.{◌≡◌, ◌++◌, [], take}
use Rattle.std.specs.List.{flat_map}
use Rattle.gufi_rows.specs.PathLists.{picked}
use Rattle.gufi_rows.specs.PathLines.{path_line}
use Rattle.gufi_rows.specs.PathPlaces.{places_of}
use Rattle.gufi_rows.proofs.path_lines.put_stretches.Given as goal

abbrev pub invariant-loop-stretch : goal.invariant-loop-stretch
invariant-loop-stretch l = l.text.items ≡ l.fn.text.items ++ flat_map path_line (picked l.list [] (places_of (take l.stretch-index l.stretches)))
