use Rattle.gufi_top.specs.Verdict.{command_over}
use Rattle.gufi_top.proofs.RunLemmas.{runs_nothing}
use Rattle.gufi_top.proofs.EndLemmas.{written_run, halted_run, halt_words}
use Rattle.gufi_top.proofs.run.run_one_shot.Goals as goal

pub returns-in-Ok-clause-run : goal.returns-in-Ok-clause-run
returns-in-Ok-clause-run g c =
    written_run g.F.Shelf g.K.Sink (command_over c.args.command.now) _ c.in-Ok.output c.in-Ok.ensures.text c.in-Ok.ensures.kept c.new-numbers.ensures.items
    c.write_output-status.ensures.status c.write_output-status.ensures.written c.write_output-status.ensures.fault

pub returns-in-Err-clause-run : goal.returns-in-Err-clause-run
returns-in-Err-clause-run g c = halted_run g.F.Shelf g.K.Sink (command_over c.args.command.now) _ c.in-Err.halt c.in-Err.ensures.text c.in-Err.ensures.cause c.in-Err.ensures.kept (λ over files plan cache is. absurd (runs_nothing c.args.command.now c.requires.one_shot over files plan cache is)) c.halted.ensures.told c.halted.ensures.numbers

pub returns-in-Err-clause-words : goal.returns-in-Err-clause-words
returns-in-Err-clause-words g c = halt_words g.K.Sink _ c.in-Err.halt _ _ _ c.in-Err.ensures.words c.halted.ensures.told
