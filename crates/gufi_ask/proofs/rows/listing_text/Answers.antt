use Rattle.std.proofs.Common.{◌∙◌, ◌++◌, ℕ, List, ap}
use Rattle.std.specs.List.{flat_map}
use Rattle.std.proofs.lemmas.Bool.{le-leb}
use Rattle.gufi_list.specs.Listings.{ls_asks}
use Rattle.gufi_list.specs.Columns.{shown_line}
use Rattle.gufi_list.proofs.Shown.{shown_lines}
use Rattle.gufi_walk.specs.Answer.{answer}
use Rattle.gufi_ask.specs.Asks.{ls_ask}
use Rattle.gufi_ask.proofs.AskLemmas.{replies_found, replies_refused}
use Rattle.gufi_ask.proofs.rows.listing_text.Goals as goal

-- no row lies deeper than those that are shown
pub answer_list-requires-clause-query : goal.answer_list-requires-clause-query
answer_list-requires-clause-query g c κs within = λ row depth met. le-leb depth c.max_depth.result (c.max_depth.ensures.bounded row depth met)

pub returns-in_ok-put_lines-in-Ok : goal.returns-in_ok-put_lines-in-Ok
returns-in_ok-put_lines-in-Ok g c =
    let rows = answer c.args.snap.now.tree c.args.who.now c.args.start.now (ls_asks c.args.all) in
    replies_found c.args.snap.now.tree c.args.who.now c.args.start.now (ls_ask c.args.users.now c.args.long c.args.all) c.put_lines.new.text c.in-Ok.ensures.found
    (c.in_ok-put_lines-in-Ok.ensures rows c.in-Ok.ensures.rows c.answer_list.ensures.ascends
    ∙ ap (λ (t : List ℕ). t ++ flat_map (shown_line c.args.users.now c.args.long c.args.all) rows) c.new-text.ensures.items
    ∙ shown_lines c.args.users.now c.args.long c.args.all rows)

pub returns-in-Err : goal.returns-in-Err
returns-in-Err g c = replies_refused c.args.snap.now.tree c.args.who.now c.args.start.now (ls_ask c.args.users.now c.args.long c.args.all) c.in-Err.refusal c.in-Err.ensures.refusal
