use Rattle.std.proofs.Common.{◌≡◌, ◌++◌, []}
use Rattle.std.specs.List.{flat_map}
use Rattle.gufi_rows.specs.PathLists.{picked}
use Rattle.gufi_rows.specs.PathLines.{path_line}
use Rattle.gufi_rows.specs.PathPlaces.{places_between}
use Rattle.gufi_rows.proofs.path_lines.put_stretch.Given as goal

abbrev pub invariant-loop-place : goal.invariant-loop-place
invariant-loop-place l = l.text.items ≡ l.fn.text.items ++ flat_map path_line (picked l.list [] (places_between l.fn.stretch.from l.place))
