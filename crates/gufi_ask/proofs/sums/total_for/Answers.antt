use Rattle.std.proofs.Common.{◌∙◌, ap}
use Rattle.gufi_ask.specs.Asks.{total_ask, total_line}
use Rattle.gufi_ask.proofs.AskLemmas.{replies_found, replies_refused}
use Rattle.gufi_ask.proofs.sums.total_for.Goals as goal

pub returns-in_ok-named_total-in-Ok : goal.returns-in_ok-named_total-in-Ok
returns-in_ok-named_total-in-Ok c =
    replies_found c.args.snap.now.tree c.args.who.now c.args.start.now (total_ask c.args.name.now) c.in_ok-named_total-in-Ok.field-0 c.in-Ok.ensures.found
    (c.in_ok-named_total-in-Ok.ensures ∙ ap (total_line c.args.name.now) c.in-Ok.ensures.sum)

pub returns-in-Err : goal.returns-in-Err
returns-in-Err c = replies_refused c.args.snap.now.tree c.args.who.now c.args.start.now (total_ask c.args.name.now) c.in-Err.refusal c.in-Err.ensures.refusal
