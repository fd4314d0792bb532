use Rattle.std.proofs.Common.{sym}
use Rattle.gufi_top.proofs.SessionLemmas.{session_of, session_err}
use Rattle.gufi_top.proofs.EndLemmas.{run_later, halted_run, before_all, halt_past_words}
use Rattle.gufi_top.proofs.session.run.Goals as goal

pub returns-in-Ok-clause-run : goal.returns-in-Ok-clause-run
returns-in-Ok-clause-run g c =
    rw (session_of _ _ _ _ _ _ _ c.in-Ok.plan c.in-Ok.ensures.plan, sym c.in-Ok.ensures.kept.files) (run_later g.F.Shelf g.K.Sink c.in-Ok.ensures.kept c.in-Ok.ensures.opens c.run_plan-outcome.ensures.run)

pub returns-in-Err-clause-run : goal.returns-in-Err-clause-run
returns-in-Err-clause-run g c =
    halted_run g.F.Shelf g.K.Sink _ _ c.in-Err.halt (session_err _ _ _ _ _ _ _ c.in-Err.halt c.in-Err.ensures.plan) c.in-Err.ensures.cause c.in-Err.ensures.kept (λ over files plan cache is. before_all g.F.Shelf _ _ _ c.in-Err.ensures.opens plan) c.halted.ensures.told c.halted.ensures.numbers

pub returns-in-Err-clause-past_words : goal.returns-in-Err-clause-past_words
returns-in-Err-clause-past_words g c = halt_past_words g.K.Sink c.in-Err.halt _ _ _ c.in-Err.ensures.past_words c.halted.ensures.told
