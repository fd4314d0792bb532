use Rattle.std.proofs.Common.{◌∙◌, ◌++◌, ◌∷◌, [], List, get_or, sym, ap, ap₂, arith}
use Rattle.std.proofs.lemmas.List.{take_more}
use Rattle.gufi_sums.specs.declared.summary.Summary.{Summary}
use Rattle.gufi_sums.specs.SumLists.{SumLists}
use Rattle.gufi_sums.specs.Total.{empty}
use Rattle.gufi_sums.proofs.shared.SharedSums.again.Goals as goal

pub loop-place-preserved : goal.loop-place-preserved
loop-place-preserved c =
    let l = c.loop-place in
    let all = c.args.self.now in
    let own = c.len-place-end.ensures.own in
    let below = c.len-place-end.ensures.below in
    c.in_ok-push_both.ensures empty
    ∙ ap (λ (a : SumLists). record { own = a.own ++ get_or all.own l.place empty ∷ []; below = a.below ++ get_or all.below l.place empty ∷ [] }) l.invariant
    ∙ ap₂ (λ (x y : List Summary). record { own = x; below = y }) (sym (take_more all.own l.place empty (omega arith))) (sym (take_more all.below l.place empty (omega arith)))
