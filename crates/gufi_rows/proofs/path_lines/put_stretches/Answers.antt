use Rattle.std.proofs.Common.{[], sym}
use Rattle.std.proofs.lemmas.List.{append-nil}
use Rattle.gufi_rows.specs.PathLines.{path_line}
use Rattle.gufi_rows.proofs.Stretches.{stretch_more}
use Rattle.gufi_rows.proofs.PathLists.{texts_at, texts-join}
use Rattle.gufi_rows.proofs.path_lines.put_stretches.Goals as goal

pub loop-stretch-preserved : goal.loop-stretch-preserved
loop-stretch-preserved c =
    let list = c.args.list.now in
    stretch_more (texts_at path_line list []) (texts-join path_line list []) c.args.stretches.now c.loop-stretch.stretch-index c.stretch-item.result _ _ _ c.loop-stretch-test.true c.stretch-item.is c.loop-stretch.invariant c.in_ok-put_stretch.ensures

pub loop-stretch-init : goal.loop-stretch-init
loop-stretch-init c = sym (append-nil c.args.text.now.items)
