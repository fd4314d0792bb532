use Rattle.std.specs.Prelude.{None}
use Rattle.gufi_find.specs.Expressions.{find_holds}
use Rattle.gufi_walk.specs.Answer.{answer}
use Rattle.gufi_ask.specs.Asks.{find_ask}
use Rattle.gufi_ask.proofs.AskLemmas.{replies_found, replies_refused}
use Rattle.gufi_ask.proofs.paths.found_text.Goals as goal

pub returns-in_ok-text_of_paths-in-Ok : goal.returns-in_ok-text_of_paths-in-Ok
returns-in_ok-text_of_paths-in-Ok g c =
    replies_found c.args.snap.tree c.args.who.now c.args.start.now (find_ask None c.args.expression.now) c.in_ok-text_of_paths-in-Ok.field-0 c.in-Ok.ensures.found
    (c.in_ok-text_of_paths-in-Ok.ensures (answer c.args.snap.tree c.args.who.now c.args.start.now (find_holds c.args.expression.now)) c.in-Ok.ensures.paths c.in-Ok.ensures.ascends)

pub returns-in-Err : goal.returns-in-Err
returns-in-Err g c = replies_refused c.args.snap.tree c.args.who.now c.args.start.now (find_ask None c.args.expression.now) c.in-Err.refusal c.in-Err.ensures.refusal
