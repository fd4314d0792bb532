use Rattle.std.proofs.Common.{◌≡◌, ◌++◌}
use Rattle.std.specs.List.{flat_map}
use Rattle.gufi_rows.specs.PathLists.{picked}
use Rattle.gufi_rows.specs.PathPlaces.{places_between}
use Rattle.gufi_rows.specs.RowLists.{no_row}
use Rattle.gufi_rows.proofs.row_lines.put_stretch.Given as goal

abbrev pub invariant-loop-place : goal.invariant-loop-place
invariant-loop-place g l = l.text.items ≡ l.fn.text.items ++ flat_map (g.L.RowLine.line l.line) (picked l.list no_row (places_between l.fn.stretch.from l.place))
