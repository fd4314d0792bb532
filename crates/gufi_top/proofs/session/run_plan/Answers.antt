use Rattle.std.proofs.Common.{◌∙◌}
use Rattle.gufi_top.proofs.EndLemmas.{session_run, end_past_words}
use Rattle.gufi_top.proofs.session.run_plan.Goals as goal

pub returns-clause-run : goal.returns-clause-run
returns-clause-run g c =
    session_run g.F.Shelf g.K.Sink _ c.args.plan.now c.args.cache c.run_session-end.result.hits _ _ _ c.run_session-end.ensures.ended c.run_session-end.ensures.hits c.run_session-end.ensures.cause c.run_session-end.ensures.kept
    (rw (c.len-asks.ensures ∙ c.run_session-end.result.numbers.ok.0) at c.tell_end-status.ensures)

pub returns-clause-past_words : goal.returns-clause-past_words
returns-clause-past_words g c = end_past_words g.K.Sink _ _ _ _ _ c.tell_end-status.ensures
