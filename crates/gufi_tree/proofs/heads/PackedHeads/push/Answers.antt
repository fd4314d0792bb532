use Rattle.std.proofs.Common.{◌∙◌, List, [], ◌∷◌, ◌++◌, ap}
use Rattle.gufi_base.specs.declared.record.Meta.{Meta}
use Rattle.gufi_tree.specs.declared.heads.HeadSpot.{HeadSpot}
use Rattle.gufi_tree.proofs.PairedHeads.{heads_pushed}
use Rattle.gufi_tree.proofs.heads.PackedHeads.push.Goals as goal

pub returns-clause-pushed : goal.returns-clause-pushed
returns-clause-pushed c =
    heads_pushed _ _ c.self.invariant _ c.self.view_is c.args.head.now _ _ (c.in_ok-push.ensures.items ∙ ap (λ (s : HeadSpot). c.self.inside.spots.items ++ s ∷ []) c.spot_of.ensures)
    (c.push_reserved.ensures.items ∙ ap (λ (ms : List Meta). ms ++ c.args.head.now.meta ∷ []) c.reserve.ensures.items)
