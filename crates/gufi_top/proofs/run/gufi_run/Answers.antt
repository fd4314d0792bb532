use Rattle.std.proofs.Common.{refl}
use Rattle.gufi_words.specs.WordTexts.{texts}
use Rattle.gufi_top.specs.Verdict.{verdict}
use Rattle.gufi_top.proofs.StepLemmas.{cause_of_bytes}
use Rattle.gufi_top.proofs.RunLemmas.{answer_err, one_shot_ok, words_err, words_run, words_ok, refusal_told, none_refused}
use Rattle.gufi_top.proofs.EndLemmas.{halted_run, halt_words, keeps_itself, nothing_opened, before_all}
use Rattle.gufi_top.proofs.CompleteLemmas.{completes}
use Rattle.gufi_top.proofs.run.gufi_run.Goals as goal

pub returns-in-Ok : goal.returns-in-Ok
returns-in-Ok g c =
    let words = texts c.args.words.now in
    let run = words_run g.F.Shelf g.K.Sink _ words c.in-Ok.command c.in-Ok.ensures.command c.run_command-outcome.ensures.run in
    record {
      ended = run.ended;
      complete = completes g.F.Shelf g.K.Sink words _ _ _ _ _ _ _ _ run;
      refused = none_refused words c.in-Ok.command _ c.in-Ok.ensures.command;
      words = λ is. words_ok g.K.Sink words c.in-Ok.command _ _ c.in-Ok.ensures.command (c.run_command-outcome.ensures.words is);
      known = run.known;
      silent = rw (one_shot_ok _ _ c.in-Ok.ensures.command) c.run_command-outcome.ensures.silent;
      kept = run.kept;
      absent = run.absent;
      read_fault = run.read_fault;
      write_fault = run.write_fault;
      memory = run.memory;
    }

pub returns-in-Err : goal.returns-in-Err
returns-in-Err g c =
    let words = texts c.args.words.now in
    let run = halted_run g.F.Shelf g.K.Sink (verdict words) _ c.in-Err.halt (answer_err _ words c.in-Err.halt c.in-Err.ensures.command) (cause_of_bytes g.F.Shelf _ _ c.in-Err.halt c.in-Err.ensures.halt) (keeps_itself g.F.Shelf _) (λ over files plan cache is. before_all g.F.Shelf _ _ _ (nothing_opened g.F.Shelf _ _) plan) c.halted.ensures.told c.halted.ensures.numbers in
    record {
      ended = run.ended;
      complete = completes g.F.Shelf g.K.Sink words _ _ _ _ _ _ _ _ run;
      refused = refusal_told g.K.Sink words c.in-Err.halt _ _ _ _ _ _ c.in-Err.ensures.command c.in-Err.ensures.halt c.in-Err.ensures.of_words c.halted.ensures.told c.halted.ensures.numbers;
      words = halt_words g.K.Sink _ c.in-Err.halt _ _ _ (words_err words c.in-Err.halt c.in-Err.ensures.command) c.halted.ensures.told;
      known = run.known;
      silent = λ _ _ _. refl;
      kept = run.kept;
      absent = run.absent;
      read_fault = run.read_fault;
      write_fault = run.write_fault;
      memory = run.memory;
    }
