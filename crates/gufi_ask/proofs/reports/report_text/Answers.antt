use Rattle.std.proofs.Common.{List, sym, ap, ◌∙◌, true, arith}
use Rattle.std.specs.Option.{option_copied}
use Rattle.gufi_base.specs.declared.record.Row.{Row}
use Rattle.gufi_stats.specs.Reports.{stats_text}
use Rattle.gufi_walk.specs.Answer.{answer}
use Rattle.gufi_ask.specs.Asks.{stats_ask}
use Rattle.gufi_ask.proofs.AskLemmas.{answer-few, replies_found, replies_refused}
use Rattle.gufi_ask.proofs.reports.report_text.Goals as goal

pub levels_text-requires : goal.levels_text-requires
levels_text-requires g c =
    let few = answer-few c.args.snap.now.tree c.args.who.now c.args.start.now (λ row depth. true) in
    record { few = (answer c.args.snap.now.tree c.args.who.now c.args.start.now (λ row depth. true), c.in-Ok.ensures.counts, omega (arith, few, c.tree-tree.ensures.few)) }

pub uids_text-requires : goal.uids_text-requires
uids_text-requires g c =
    let few = answer-few c.args.snap.now.tree c.args.who.now c.args.start.now (λ row depth. true) in
    record { few = (answer c.args.snap.now.tree c.args.who.now c.args.start.now (λ row depth. true), c.in-Ok-counts_from.ensures.counts, omega (arith, few, c.tree-tree.ensures.few)) }

pub gids_text-requires : goal.gids_text-requires
gids_text-requires g c =
    let few = answer-few c.args.snap.now.tree c.args.who.now c.args.start.now (λ row depth. true) in
    record { few = (answer c.args.snap.now.tree c.args.who.now c.args.start.now (λ row depth. true), c.in-Ok-counts_from-2.ensures.counts, omega (arith, few, c.tree-tree.ensures.few)) }

pub returns-in_ok-levels_text-in-Ok : goal.returns-in_ok-levels_text-in-Ok
returns-in_ok-levels_text-in-Ok g c =
    let rows : List Row = answer c.args.snap.now.tree c.args.who.now c.args.start.now (λ row depth. true) in
    replies_found c.args.snap.now.tree c.args.who.now c.args.start.now (stats_ask (option_copied c.args.names) c.args.report) c.in_ok-levels_text-in-Ok.field-0 c.in-Ok.ensures.found
    (c.in_ok-levels_text-in-Ok.ensures (option_copied c.args.names) rows c.in-Ok.ensures.counts ∙ ap (stats_text (option_copied c.args.names) rows c.args.start.now) (sym c.in-Levels.is))

pub returns-in_ok-uids_text-in-Ok-counts_from : goal.returns-in_ok-uids_text-in-Ok-counts_from
returns-in_ok-uids_text-in-Ok-counts_from g c =
    let rows : List Row = answer c.args.snap.now.tree c.args.who.now c.args.start.now (λ row depth. true) in
    replies_found c.args.snap.now.tree c.args.who.now c.args.start.now (stats_ask (option_copied c.args.names) c.args.report) c.in_ok-uids_text-in-Ok-counts_from.field-0 c.in-Ok-counts_from.ensures.found
    (c.in_ok-uids_text-in-Ok-counts_from.ensures rows c.args.start.now c.in-Ok-counts_from.ensures.counts ∙ ap (stats_text (option_copied c.args.names) rows c.args.start.now) (sym c.in-Uids.is))

pub returns-in_ok-gids_text-in-Ok-counts_from-2 : goal.returns-in_ok-gids_text-in-Ok-counts_from-2
returns-in_ok-gids_text-in-Ok-counts_from-2 g c =
    let rows : List Row = answer c.args.snap.now.tree c.args.who.now c.args.start.now (λ row depth. true) in
    replies_found c.args.snap.now.tree c.args.who.now c.args.start.now (stats_ask (option_copied c.args.names) c.args.report) c.in_ok-gids_text-in-Ok-counts_from-2.field-0 c.in-Ok-counts_from-2.ensures.found
    (c.in_ok-gids_text-in-Ok-counts_from-2.ensures rows c.args.start.now c.in-Ok-counts_from-2.ensures.counts ∙ ap (stats_text (option_copied c.args.names) rows c.args.start.now) (sym c.in-Gids.is))

pub returns-in-Err : goal.returns-in-Err
returns-in-Err g c = replies_refused c.args.snap.now.tree c.args.who.now c.args.start.now (stats_ask (option_copied c.args.names) c.args.report) c.in-Err.refusal c.in-Err.ensures.refusal

pub returns-in-Err-counts_from : goal.returns-in-Err-counts_from
returns-in-Err-counts_from g c = replies_refused c.args.snap.now.tree c.args.who.now c.args.start.now (stats_ask (option_copied c.args.names) c.args.report) c.in-Err-counts_from.refusal c.in-Err-counts_from.ensures.refusal

pub returns-in-Err-counts_from-2 : goal.returns-in-Err-counts_from-2
returns-in-Err-counts_from-2 g c = replies_refused c.args.snap.now.tree c.args.who.now c.args.start.now (stats_ask (option_copied c.args.names) c.args.report) c.in-Err-counts_from-2.refusal c.in-Err-counts_from-2.ensures.refusal
