use Rattle.gufi_top.specs.Questions.{asks}
use Rattle.gufi_top.specs.Verdict.{AskMayRefuse}
use Rattle.gufi_top.proofs.SearchLemmas.{past_words}
use Rattle.gufi_top.proofs.search.ask.Goals as goal

pub returns-in-Err-clause-words : goal.returns-in-Err-clause-words
returns-in-Err-clause-words g c = past_words (AskMayRefuse c.args.common.now (asks c.args.question.now)) c.in-Err.halt c.in-Err.ensures.past_words
