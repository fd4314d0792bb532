use Rattle.std.proofs.Common.{◌∙◌, ap, ◌++◌, ◌∷◌, [], Bool, arith, ◌<◌, length, get_or, false}
use Rattle.gufi_roll.specs.declared.below.Below.{Below}
use Rattle.gufi_roll.proofs.Laws.{flags_more}
use Rattle.gufi_roll.proofs.flags.flags_of.Goals as goal

pub loop-below-preserved : goal.loop-below-preserved
loop-below-preserved c =
    let i = c.loop-below.below-index in
    let unknown : Below = record { rows = 0; covered = false } in
    let lt : c.loop-below.below-index < length c.args.tree.now = omega (arith, c.requires.len, c.loop-below-test.true) in
    c.in_ok-push.ensures.items ∙ ap (λ (b : Bool). c.loop-below.flags.items ++ b ∷ []) c.fits.ensures
    ∙ flags_more c.args.tree.now c.args.limit c.loop-below.flags.items i (get_or c.args.found.now i unknown) c.loop-below.invariant lt (c.requires.each i unknown (omega arith) lt)
