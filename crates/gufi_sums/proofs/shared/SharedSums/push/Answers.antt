use Rattle.std.proofs.Common.{◌∙◌, ◌++◌, ◌∷◌, [], ap}
use Rattle.gufi_sums.specs.SumLists.{SumLists}
use Rattle.gufi_sums.specs.Blocks.{lists_of, sums_in}
use Rattle.gufi_sums.proofs.Slots.{pushed_stand, sums-pushed}
use Rattle.gufi_sums.proofs.shared.SharedSums.push.Goals as goal

pub invariant_of-self-2 : goal.invariant_of-self-2
invariant_of-self-2 c =
    rw c.in_ok-push.ensures.items
    (pushed_stand _ (lists_of c.add_sum.new.blocks.items c.add_sum.new.last.items) c.add_sum.ensures.keep c.self.inside.slots.items c.self.invariant c.in_ok-slot.slot c.in_ok-slot.ensures.stands)

pub returns : goal.returns
returns c =
    let after = lists_of c.add_sum.new.blocks.items c.add_sum.new.last.items in
    ap (sums_in after) c.in_ok-push.ensures.items
    ∙ sums-pushed _ after c.add_sum.ensures.keep c.self.inside.slots.items c.self.invariant c.in_ok-slot.slot c.args.sum c.in_ok-slot.ensures.sum
    ∙ ap (λ (s : SumLists). record { own = s.own ++ c.args.sum ∷ []; below = s.below ++ c.args.sum ∷ [] }) c.self.view_is
