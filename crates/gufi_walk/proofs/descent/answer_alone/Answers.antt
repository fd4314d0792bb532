use Rattle.std.proofs.Common.{◌≡◌, ◌≤◌, ◌+◌, length, subst}
use Rattle.gufi_base.specs.Paths.{Components}
use Rattle.gufi_walk.specs.Answer.{answer}
use Rattle.gufi_walk.specs.Walk.{front_met}
use Rattle.gufi_walk.proofs.descent.answer_alone.Goals as goal

pub returns-clause-rows : goal.returns-clause-rows
returns-clause-rows g c =
    subst (λ (p : Components). g.Y.Yield.stands_for c.in_ok-answer_from.field-0 (answer c.args.snap.now.tree c.args.who.now p (g.P.Pred.sat c.args.pred.now))) c.in_ok-id.ensures.path c.in_ok-answer_from.ensures.rows

pub returns-clause-at_most : goal.returns-clause-at_most
returns-clause-at_most g c =
    let P : Components → Type 0 = λ p. c.answer_from.new.steps ≤ c.args.steps.now + length (front_met (g.S.Skip.skips c.args.skip.now) (g.S.Skip.deepest c.args.skip.now) c.args.snap.now.tree c.args.who.now p c.args.snap.now.limit) in
    subst P c.in_ok-id.ensures.path c.in_ok-answer_from.ensures.at_most

pub returns-clause-exact : goal.returns-clause-exact
returns-clause-exact g c =
    let P : Components → Type 0 = λ p. c.answer_from.new.steps ≡ c.args.steps.now + length (front_met (g.S.Skip.skips c.args.skip.now) (g.S.Skip.deepest c.args.skip.now) c.args.snap.now.tree c.args.who.now p c.args.snap.now.limit) in
    subst P c.in_ok-id.ensures.path c.in_ok-answer_from.ensures.exact

pub returns-in_err-answer_from-clause-at_most : goal.returns-in_err-answer_from-clause-at_most
returns-in_err-answer_from-clause-at_most g c =
    let P : Components → Type 0 = λ p. c.answer_from.new.steps ≤ c.args.steps.now + length (front_met (g.S.Skip.skips c.args.skip.now) (g.S.Skip.deepest c.args.skip.now) c.args.snap.now.tree c.args.who.now p c.args.snap.now.limit) in
    subst P c.in_ok-id.ensures.path c.in_err-answer_from.ensures.at_most
