use Rattle.std.proofs.Common.{◌≡◌, ◌++◌}
use Rattle.gufi_rows.specs.PathLists.{picked}
use Rattle.gufi_rows.specs.PathPlaces.{places_between}
use Rattle.gufi_rows.specs.RowLists.{no_row}
use Rattle.gufi_rows.proofs.row_list.RowList.put_rows.Given as goal

abbrev pub invariant-loop-place : goal.invariant-loop-place
invariant-loop-place l = l.rows.items ≡ l.fn.rows.items ++ picked l.self no_row (places_between l.fn.stretch.from l.place)
