use Rattle.gufi_top.specs.Questions.{asks}
use Rattle.gufi_top.specs.Verdict.{AskMayRefuse}
use Rattle.gufi_top.proofs.SearchLemmas.{asked_refusal, past_words}
use Rattle.gufi_top.proofs.search.ask_index.Goals as goal

pub returns-in-Ok-clause-words : goal.returns-in-Ok-clause-words
returns-in-Ok-clause-words g c = asked_refusal c.args.common.now (asks c.args.question.now) c.args.users.now c.in-Ok.snap c.ask_by.result c.ask_by.ensures.text

pub returns-in-Err-clause-words : goal.returns-in-Err-clause-words
returns-in-Err-clause-words g c = past_words (AskMayRefuse c.args.common.now (asks c.args.question.now)) c.in-Err.halt c.in-Err.ensures.past_words
