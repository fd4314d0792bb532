use Rattle.gufi_select.specs.Columns.{select_holds}
use Rattle.gufi_walk.specs.Answer.{answer}
use Rattle.gufi_ask.specs.Asks.{query_ask}
use Rattle.gufi_ask.proofs.AskLemmas.{replies_found, replies_refused}
use Rattle.gufi_ask.proofs.rows.query_text.Goals as goal

pub returns-in_ok-text_of_rows-in-Ok : goal.returns-in_ok-text_of_rows-in-Ok
returns-in_ok-text_of_rows-in-Ok g c =
    replies_found c.args.snap.tree c.args.who.now c.args.start.now (query_ask c.args.form c.args.select.now) c.in_ok-text_of_rows-in-Ok.field-0 c.in-Ok.ensures.found
    (c.in_ok-text_of_rows-in-Ok.ensures (answer c.args.snap.tree c.args.who.now c.args.start.now (select_holds c.args.select.now)) c.in-Ok.ensures.rows c.in-Ok.ensures.ascends)

pub returns-in-Err : goal.returns-in-Err
returns-in-Err g c = replies_refused c.args.snap.tree c.args.who.now c.args.start.now (query_ask c.args.form c.args.select.now) c.in-Err.refusal c.in-Err.ensures.refusal
