use denote.Param.Send.{sendable}
use Rattle.std.proofs.Common.{List, arith}
use Rattle.gufi_base.specs.declared.record.Row.{Row}
use Rattle.gufi_select.specs.Columns.{select_holds}
use Rattle.gufi_select.proofs.Searching.{select_tester_send}
use Rattle.gufi_select.proofs.Sharing.{question_sync}
use Rattle.gufi_walk.specs.Answer.{answer}
use Rattle.gufi_ask.proofs.AskLemmas.{answer-few}
use Rattle.gufi_ask.proofs.groups.groups_by.Goals as goal

-- a SELECT may be asked from many threads
pub answer-requires-sync-P : goal.answer-requires-sync-P
answer-requires-sync-P g c κs = search (question_sync, sendable) depth 10

-- and each thread may be sent a tester of it
pub answer-requires-send-P-Tester : goal.answer-requires-send-P-Tester
answer-requires-send-P-Tester g c κs within = search (select_tester_send, sendable) depth 10

-- no row is passed over that the SELECT chooses
pub answer-requires-clause-query : goal.answer-requires-clause-query
answer-requires-clause-query g c κs within = λ row depth met. c.in_ok-skip.ensures.met row depth (rw c.question-chosen.ensures at met)

pub sorted-requires : goal.sorted-requires
sorted-requires g c =
    let rows : List Row = answer c.args.snap.now.tree c.args.who.now c.args.start.now (select_holds c.args.select.now) in
    let few = answer-few c.args.snap.now.tree c.args.who.now c.args.start.now (select_holds c.args.select.now) in
    record { few = (rows, rw c.question-chosen.ensures at c.in-Ok.ensures.rows, omega (arith, few, c.tree-tree.ensures.few)) }
