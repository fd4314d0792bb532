use Rattle.std.proofs.Common.{◌∙◌, ◌≡◌, true, sym, ap}
use Rattle.std.specs.Prelude.{Ok}
use Rattle.gufi_base.specs.declared.record.Row.{Row}
use Rattle.gufi_base.specs.Paths.{Components}
use Rattle.gufi_tree.specs.Tree.{dir_row}
use Rattle.gufi_sums.specs.Total.{total}
use Rattle.gufi_list.specs.Texts.{stat_text}
use Rattle.gufi_walk.specs.Answer.{answer}
use Rattle.gufi_ask.specs.Asks.{stat_ask}
use Rattle.gufi_ask.proofs.AskLemmas.{stat_found, replies_refused}
use Rattle.gufi_ask.proofs.sums.record_text.Goals as goal

pub returns-in_ok-stat_text-in-Ok : goal.returns-in_ok-stat_text-in-Ok
returns-in_ok-stat_text-in-Ok c =
    let tree = c.args.snap.now.tree in
    let row : record { path = c.path.result; rec = c.rec.result } ≡ dir_row c.dir-dir.result = λ i. record { path = c.path.ensures i; rec = c.rec.ensures i } in
    let sum = c.in_ok-sum-in-Ok.ensures ∙ ap (λ (p : Components). total (answer tree c.args.who.now p (λ row depth. true))) c.in-Ok.ensures.path in
    stat_found tree c.tree.result.now c.args.who.now c.args.start.now c.in-Ok.id c.dir-dir.result c.in_ok-sum-in-Ok.sum c.tree.ensures.shape c.tree.ensures.tree c.in-Ok.ensures.found c.dir-dir.ensures.value sum
    ∙ ap (λ (r : Row). Ok (stat_text r c.in_ok-sum-in-Ok.sum)) (sym row) ∙ ap Ok (sym c.in_ok-stat_text-in-Ok.ensures)

pub returns-in-Err : goal.returns-in-Err
returns-in-Err c = replies_refused c.args.snap.now.tree c.args.who.now c.args.start.now stat_ask c.in-Err.refusal (λ other. c.in-Err.ensures.refusal)
