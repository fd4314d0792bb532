use Rattle.std.specs.Prelude.{Some}
use Rattle.gufi_find.specs.Expressions.{find_holds}
use Rattle.gufi_walk.specs.Answer.{answer}
use Rattle.gufi_ask.specs.Asks.{find_ask}
use Rattle.gufi_ask.proofs.AskLemmas.{replies_found, replies_refused}
use Rattle.gufi_ask.proofs.prefixed.prefixed_text.Goals as goal

pub returns-in_ok-text_of_found-in-Ok : goal.returns-in_ok-text_of_found-in-Ok
returns-in_ok-text_of_found-in-Ok g c =
    replies_found c.args.snap.tree c.args.who.now c.args.start.now (find_ask (Some c.args.prefix.now) c.args.expression.now) c.in_ok-text_of_found-in-Ok.field-0 c.in-Ok.ensures.found
    (c.in_ok-text_of_found-in-Ok.ensures (answer c.args.snap.tree c.args.who.now c.args.start.now (find_holds c.args.expression.now)) c.in-Ok.ensures.rows c.in-Ok.ensures.ascends)

pub returns-in-Err : goal.returns-in-Err
returns-in-Err g c = replies_refused c.args.snap.tree c.args.who.now c.args.start.now (find_ask (Some c.args.prefix.now) c.args.expression.now) c.in-Err.refusal c.in-Err.ensures.refusal
