use Rattle.gufi_walk.proofs.Pieces.{answer-ascends}
use Rattle.gufi_walk.proofs.reply.answer_paths.Goals as goal

pub returns-clause-ascends : goal.returns-clause-ascends
returns-clause-ascends g c = answer-ascends c.args.snap.now.tree c.tree-tree.ensures.shape c.args.who.now c.args.start.now (g.P.Pred.sat c.args.pred.now)
