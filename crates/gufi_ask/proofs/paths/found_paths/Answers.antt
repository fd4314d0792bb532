use Rattle.gufi_ask.proofs.paths.found_paths.Goals as goal

-- no row is passed over for which the expression is true
pub answer_paths-requires-clause-query : goal.answer_paths-requires-clause-query
answer_paths-requires-clause-query g c κs within = λ row depth met. c.in_ok-skip.ensures.met row depth (rw c.question-question.ensures at met)
