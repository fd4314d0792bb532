use Rattle.std.proofs.Common.{sym}
use Rattle.std.proofs.lemmas.List.{append-nil}
use Rattle.gufi_rows.specs.RowLists.{no_row}
use Rattle.gufi_rows.proofs.PathLists.{texts_at, texts-join}
use Rattle.gufi_rows.proofs.Stretches.{stretch_more}
use Rattle.gufi_rows.proofs.row_lines.put_stretches.Goals as goal

pub loop-stretch-init : goal.loop-stretch-init
loop-stretch-init g c = sym (append-nil c.args.text.now.items)

pub loop-stretch-preserved : goal.loop-stretch-preserved
loop-stretch-preserved g c =
    let list = c.args.list.now in
    let text = g.L.RowLine.line c.args.line.now in
    stretch_more (texts_at text list no_row) (texts-join text list no_row) c.args.stretches.now c.loop-stretch.stretch-index c.stretch-item.result _ _ _ c.loop-stretch-test.true c.stretch-item.is c.loop-stretch.invariant c.in_ok-put_stretch.ensures
