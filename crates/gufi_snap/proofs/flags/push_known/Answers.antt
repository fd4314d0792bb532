use Rattle.std.proofs.Common.{◌∷◌, ◌++◌, [], Bool, Option, Some, false, List, map, get_or, ap, ◌∙◌}
use Rattle.std.proofs.lemmas.List.{take_all}
use Rattle.gufi_snap.proofs.Known.{mapped_more}
use Rattle.gufi_snap.proofs.flags.push_known.Goals as goal

pub loop-flag-preserved : goal.loop-flag-preserved
loop-flag-preserved c =
    let flags : List Bool = c.args.flags.now in
    c.in_ok-push.ensures.items ∙ ap (λ (l : List (Option Bool)). l ++ Some (get_or flags c.loop-flag.flag-index false) ∷ []) c.loop-flag.invariant
    ∙ mapped_more (λ (b : Bool). Some b) c.args.known.now.items flags c.loop-flag.flag-index false c.loop-flag-test.true

pub returns : goal.returns
returns c = c.loop-flag.invariant ∙ ap (λ (l : List Bool). c.args.known.now.items ++ map Some l) (take_all c.loop-flag.flag-index c.args.flags.now c.loop-flag-test.false)
