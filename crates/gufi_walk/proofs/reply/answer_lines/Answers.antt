use Rattle.std.proofs.Common.{◌∙◌, sym}
use Rattle.gufi_rows.specs.PathLines.{ArePathsOf-counted}
use Rattle.gufi_walk.specs.Answer.{answer}
use Rattle.gufi_walk.proofs.reply.answer_lines.Goals as goal

pub returns-in_ok-text-in-Ok-clause-text : goal.returns-in_ok-text-in-Ok-clause-text
returns-in_ok-text-in-Ok-clause-text g c =
    c.in_ok-text-in-Ok.ensures (answer c.args.snap.now.tree c.args.who.now c.args.start.now (g.P.Pred.sat c.args.pred.now)) c.in-Ok.ensures.paths c.answer_paths.ensures.ascends

pub returns-in_ok-text-in-Ok-clause-count : goal.returns-in_ok-text-in-Ok-clause-count
returns-in_ok-text-in-Ok-clause-count g c =
    c.len-count.ensures ∙ sym (ArePathsOf-counted c.in-Ok.paths (answer c.args.snap.now.tree c.args.who.now c.args.start.now (g.P.Pred.sat c.args.pred.now)) c.in-Ok.ensures.paths)
