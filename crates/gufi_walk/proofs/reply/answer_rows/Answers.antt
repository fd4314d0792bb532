use Rattle.gufi_walk.specs.Answer.{answer}
use Rattle.gufi_walk.proofs.reply.answer_rows.Goals as goal

pub returns-in_ok-sorted-in-Ok-clause-rows : goal.returns-in_ok-sorted-in-Ok-clause-rows
returns-in_ok-sorted-in-Ok-clause-rows g c =
    c.in_ok-sorted-in-Ok.ensures.only (answer c.args.snap.now.tree c.args.who.now c.args.start.now (g.P.Pred.sat c.args.pred.now)) c.in-Ok.ensures.rows c.answer_list.ensures.ascends
