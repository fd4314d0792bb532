use Rattle.std.proofs.Common.{[], get_or}
use Rattle.std.proofs.lemmas.List.{map-append}
use Rattle.gufi_rows.specs.PathLists.{picked}
use Rattle.gufi_rows.specs.RowLists.{no_row}
use Rattle.gufi_rows.proofs.Stretches.{stretch_more}
use Rattle.gufi_rows.proofs.row_list.RowList.rows_at.Goals as goal

pub loop-stretch-preserved : goal.loop-stretch-preserved
loop-stretch-preserved c =
    let all = c.args.self.now in
    stretch_more (picked all no_row) (map-append (λ k. get_or all k no_row)) c.args.stretches.now c.loop-stretch.stretch-index c.stretch-item.result [] _ _ c.loop-stretch-test.true c.stretch-item.is c.loop-stretch.invariant c.in_ok-put_rows.ensures
