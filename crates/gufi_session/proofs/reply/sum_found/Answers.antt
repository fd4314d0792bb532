use Rattle.std.proofs.Common.{◌≡◌, ℕ, sym, subst}
use Rattle.std.specs.Prelude.{Bool, IfOk}
use Rattle.gufi_base.specs.declared.record.Row.{Row}
use Rattle.gufi_find.specs.Expressions.{Find, find_holds}
use Rattle.gufi_sums.specs.Total.{total}
use Rattle.gufi_walk.specs.Answer.{answer}
use Rattle.gufi_session.proofs.reply.sum_found.Goals as goal

pub returns-then-has_no_words-clause-sum : goal.returns-then-has_no_words-clause-sum
returns-then-has_no_words-clause-sum g c =
    subst (λ (asks : Row → ℕ → Bool). IfOk c.answer_total.result (λ sum. sum ≡ total (answer c.args.snap.now.tree c.args.who.now c.args.start.now asks)))
    (sym (c.has_no_words.ensures.every_row c.if-has_no_words.true)) c.answer_total.ensures.sum

pub returns-clause-sum : goal.returns-clause-sum
returns-clause-sum g c =
    subst (λ (f : Find). IfOk c.answer_sum.result (λ sum. sum ≡ total (answer c.args.snap.now.tree c.args.who.now c.args.start.now (find_holds f))))
    c.question-question.ensures c.answer_sum.ensures.sum

-- no row is passed over that the expression admits
pub answer_sum-requires-clause-query : goal.answer_sum-requires-clause-query
answer_sum-requires-clause-query g c κs within = λ row depth met.
    c.in_ok-skip.ensures.met row depth (rw c.question-question.ensures at met)
