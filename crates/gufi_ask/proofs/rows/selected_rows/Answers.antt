use denote.Param.Send.{sendable}
use Rattle.gufi_select.proofs.Searching.{select_tester_send}
use Rattle.gufi_select.proofs.Sharing.{question_sync}
use Rattle.gufi_ask.proofs.rows.selected_rows.Goals as goal

-- a SELECT may be asked from many threads
pub answer_list-requires-sync-P : goal.answer_list-requires-sync-P
answer_list-requires-sync-P g c κs = search (question_sync, sendable) depth 10

-- and each thread may be sent a tester of it
pub answer_list-requires-send-P-Tester : goal.answer_list-requires-send-P-Tester
answer_list-requires-send-P-Tester g c κs within = search (select_tester_send, sendable) depth 10

-- no row is passed over that the SELECT chooses
pub answer_list-requires-clause-query : goal.answer_list-requires-clause-query
answer_list-requires-clause-query g c κs within = λ row depth met. c.in_ok-skip.ensures.met row depth (rw c.question-question.ensures at met)
