use Rattle.std.proofs.Common.{◌≡◌, take}
use Rattle.gufi_rows.specs.PathLists.{picked}
use Rattle.gufi_rows.specs.PathPlaces.{places_of}
use Rattle.gufi_rows.specs.RowLists.{no_row}
use Rattle.gufi_rows.proofs.row_list.RowList.rows_at.Given as goal

abbrev pub invariant-loop-stretch : goal.invariant-loop-stretch
invariant-loop-stretch l = l.rows.items ≡ picked l.self no_row (places_of (take l.stretch-index l.stretches))
