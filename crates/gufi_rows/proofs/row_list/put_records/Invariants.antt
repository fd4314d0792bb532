use Rattle.std.proofs.Common.{◌≡◌, ◌++◌, take}
use Rattle.std.specs.Prelude.{map}
use Rattle.gufi_rows.specs.RowLists.{kept_behind}
use Rattle.gufi_rows.proofs.row_list.put_records.Given as goal

abbrev pub invariant-loop-kept : goal.invariant-loop-kept
invariant-loop-kept l = l.records.items ≡ l.fn.records.items ++ map (kept_behind l.by) (take l.kept-index l.more)
