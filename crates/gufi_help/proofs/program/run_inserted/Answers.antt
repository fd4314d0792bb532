use Rattle.gufi_help.proofs.program.run_inserted.Goals as goal

pub returns-clause-run : goal.returns-clause-run
returns-clause-run g c =
    let ran = c.gufi_run-outcome.ensures in
    record {
      status = c.gufi_run-outcome.result.status;
      empty = c.holding-kept.result;
      kept = c.gufi_run-outcome.new.notes;
      nothing = (c.holding-kept.ensures.taken, c.holding-kept.ensures.faults);
      ran = record {
        ended = ran.ended;
        complete = ran.complete;
        refused = ran.refused;
        refusal = ran.words;
        known = ran.known;
        silent = ran.silent;
        kept = ran.kept;
        absent = ran.absent;
        read_fault = ran.read_fault;
        write_fault = ran.write_fault;
        memory = ran.memory;
      };
      told = c.tell_caller-status.ensures.told;
    }
