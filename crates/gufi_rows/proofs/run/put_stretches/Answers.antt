use Rattle.std.proofs.Common.{[], get_or, sym}
use Rattle.std.proofs.lemmas.List.{append-nil, map-append}
use Rattle.gufi_rows.specs.PathLists.{paths_in, picked}
use Rattle.gufi_rows.proofs.Stretches.{stretch_more}
use Rattle.gufi_rows.proofs.run.put_stretches.Goals as goal

pub loop-stretch-init : goal.loop-stretch-init
loop-stretch-init c = λ are. (are, sym (append-nil (paths_in c.args.text.now.items c.args.spots.now.items)))

pub loop-stretch-preserved : goal.loop-stretch-preserved
loop-stretch-preserved c = λ are.
    let list = c.args.list.now in
    let was = c.loop-stretch.invariant are in
    let put = c.in_ok-put_stretch.ensures was.0 in (
      put.0,
      stretch_more (picked list []) (map-append (λ k. get_or list k [])) c.args.stretches.now c.loop-stretch.stretch-index c.stretch-item.result _ _ _ c.loop-stretch-test.true c.stretch-item.is was.1 put.1,
    )
