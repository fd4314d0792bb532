use Rattle.std.proofs.Common.{◌∙◌, true, ap}
use Rattle.gufi_base.specs.Paths.{Components}
use Rattle.gufi_sums.specs.Total.{total}
use Rattle.gufi_walk.specs.Answer.{answer}
use Rattle.gufi_walk.proofs.total.answer_total.Goals as goal

pub returns-clause-sum : goal.returns-clause-sum
returns-clause-sum c =
    c.in_ok-total_from.ensures ∙ ap (λ (p : Components). total (answer c.args.snap.now.tree c.args.who.now p (λ row depth. true))) c.in_ok-id.ensures.path
