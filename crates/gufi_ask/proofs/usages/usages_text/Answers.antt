use Rattle.std.proofs.Common.{ap}
use Rattle.gufi_find.specs.Expressions.{find_holds}
use Rattle.gufi_ask.proofs.AskLemmas.{usages_replied}
use Rattle.gufi_ask.proofs.usages.usages_text.Goals as goal

-- no row is passed over for which the expression is true
pub usage_text-requires : goal.usage_text-requires
usage_text-requires c = record { query = λ row depth met. c.in_ok-skip.ensures.met row depth (rw c.question-question.ensures at met) }

pub returns : goal.returns
returns c =
    usages_replied c.args.snap.now.tree c.args.who.now c.args.start.now c.args.depth c.args.expression.now (find_holds c.question-question.result) (ap find_holds c.question-question.ensures)
    c.usage_text.result c.usage_text.ensures.text c.usage_text.ensures.found c.usage_text.ensures.refusal
