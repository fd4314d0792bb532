use denote.Param.Send.{sendable}
use Rattle.std.proofs.lemmas.Result.{on_ok_weaker}
use Rattle.gufi_select.specs.Columns.{select_holds}
use Rattle.gufi_select.proofs.Searching.{select_tester_send}
use Rattle.gufi_select.proofs.Sharing.{question_sync}
use Rattle.gufi_walk.specs.Answer.{answer}
use Rattle.gufi_plan.specs.declared.search.Query.TheVariants.{Selects}
use Rattle.gufi_session.proofs.Replies.{found_put}
use Rattle.gufi_session.proofs.reply.put_selected.Goals as goal

pub answer_list-requires-sync-P : goal.answer_list-requires-sync-P
answer_list-requires-sync-P g c κs = search (question_sync, sendable) depth 10

pub answer_list-requires-send-P-Tester : goal.answer_list-requires-send-P-Tester
answer_list-requires-send-P-Tester g c κs within = search (select_tester_send, sendable) depth 10

-- no row is passed over that the SELECT admits
pub answer_list-requires-clause-query : goal.answer_list-requires-clause-query
answer_list-requires-clause-query g c κs within = λ row depth met.
    c.in_ok-skip.ensures.met row depth (rw c.question-question.ensures at met)

pub returns-in-Ok : goal.returns-in-Ok
returns-in-Ok g c =
    let tree = c.args.snap.now.tree in
    let who = c.args.who.now in
    let start = c.args.start.now in
    let asks = select_holds c.args.select.now in
    on_ok_weaker c.put_rows.result
    (λ put. found_put (Selects c.args.select.now) tree who start asks c.args.text.now.items c.put_rows.new.text.items c.in-Ok.ensures.found
    (put (answer tree who start asks) (rw c.question-question.ensures at c.in-Ok.ensures.rows) (rw c.question-question.ensures at c.answer_list.ensures.ascends)))
    c.put_rows.ensures
