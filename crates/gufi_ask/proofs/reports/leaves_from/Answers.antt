use Rattle.std.proofs.Common.{◌∙◌, true}
use Rattle.gufi_base.specs.Rows.{is_dir_row}
use Rattle.gufi_stats.specs.declared.report.Report.TheVariants as reports
use Rattle.gufi_walk.specs.Answer.{answer}
use Rattle.gufi_walk.proofs.Pieces.{answer-ascends}
use Rattle.gufi_ask.specs.Asks.{stats_ask}
use Rattle.gufi_ask.proofs.AskLemmas.{answer-kept, replies_found, replies_refused}
use Rattle.gufi_ask.proofs.reports.leaves_from.Goals as goal

pub leaves_text-requires : goal.leaves_text-requires
leaves_text-requires g c = record {
  in_order = rw (c.deref.ensures.value ∙ c.in-Ok.ensures.rows) (answer-ascends c.args.snap.now.tree c.tree-tree.ensures.shape c.args.who.now c.args.start.now (λ row depth. is_dir_row row));
}

pub returns-in_ok-leaves_text-in-Ok : goal.returns-in_ok-leaves_text-in-Ok
returns-in_ok-leaves_text-in-Ok g c names =
    replies_found c.args.snap.now.tree c.args.who.now c.args.start.now (stats_ask names reports.Leaves) c.in_ok-leaves_text-in-Ok.field-0 c.in-Ok.ensures.found
    (c.in_ok-leaves_text-in-Ok.ensures names (answer c.args.snap.now.tree c.args.who.now c.args.start.now (λ row depth. true)) c.args.start.now (c.deref.ensures.value ∙ c.in-Ok.ensures.rows ∙ answer-kept c.args.snap.now.tree c.args.who.now c.args.start.now is_dir_row))

pub returns-in-Err : goal.returns-in-Err
returns-in-Err g c names = replies_refused c.args.snap.now.tree c.args.who.now c.args.start.now (stats_ask names reports.Leaves) c.in-Err.refusal c.in-Err.ensures.refusal
