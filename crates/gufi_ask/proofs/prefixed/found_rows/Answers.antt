use Rattle.gufi_ask.proofs.prefixed.found_rows.Goals as goal

-- no row is passed over for which the expression is true
pub answer_list-requires-clause-query : goal.answer_list-requires-clause-query
answer_list-requires-clause-query g c κs within = λ row depth met. c.in_ok-skip.ensures.met row depth (rw c.question-question.ensures at met)
