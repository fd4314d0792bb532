use Rattle.std.proofs.Common.{[], refl}
use Rattle.gufi_rows.proofs.Stretches.{stretch_more}
use Rattle.gufi_rows.proofs.ordered.places_in.Goals as goal

pub loop-stretch-preserved : goal.loop-stretch-preserved
loop-stretch-preserved c =
    stretch_more (λ ks. ks) (λ ks ls. refl) c.args.stretches.now c.loop-stretch.stretch-index c.stretch-item.result [] _ _ c.loop-stretch-test.true c.stretch-item.is c.loop-stretch.invariant c.in_ok-put_stretch.ensures
