use Rattle.std.proofs.Common.{◌∙◌, ◌++◌, ◌∷◌, [], ℕ, List, set, ap, ap₂}
use Rattle.std.proofs.Math.Seq.{set-append_seam}
use Rattle.std.proofs.lemmas.Result.{on_ok_weaker}
use Rattle.gufi_sums.specs.declared.summary.Summary.{Summary}
use Rattle.gufi_sums.specs.SumLists.{SumLists}
use Rattle.gufi_sums.proofs.shared.SharedSums.push_both.Goals as goal

pub returns-then-is_one : goal.returns-then-is_one
returns-then-is_one c = λ s.
    let own = c.own.ensures s in
    c.in_ok-push.ensures
    ∙ ap₂ (λ (x y : Summary). record { own = c.args.self.now.own ++ x ∷ []; below = c.args.self.now.below ++ y ∷ [] }) own (own ∙ c.is_one.ensures c.if-is_one.true s)

pub returns : goal.returns
returns c =
    let old = c.args.self.now in
    let own = c.own.result.now in
    let below = c.below.result.now in
    on_ok_weaker c.put_below.result (λ put s. put
    ∙ ap (λ (l : SumLists). record { own = l.own; below = set l.below c.len-last.result below }) c.in_ok-push.ensures
    ∙ ap (λ (n : ℕ). record { own = old.own ++ own ∷ []; below = set (old.below ++ own ∷ []) n below }) c.len-last.ensures.below
    ∙ ap (λ (bs : List Summary). record { own = old.own ++ own ∷ []; below = bs }) (set-append_seam old.below own [] below)
    ∙ ap₂ (λ (x y : Summary). record { own = old.own ++ x ∷ []; below = old.below ++ y ∷ [] }) (c.own.ensures s) (c.below.ensures s)) c.put_below.ensures
