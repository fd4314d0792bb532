use Rattle.gufi_help.proofs.explaining.run_explained.Goals as goal

pub returns : goal.returns
returns g c =
    let ran = c.gufi_run-outcome.ensures in
    record {
      status = c.gufi_run-outcome.result.status;
      empty = c.holding-kept.result;
      kept = c.gufi_run-outcome.new.notes;
      ended = c.gufi_run-outcome.new.shelf;
      noted = c.tell-status.new.notes;
      nothing = (c.holding-kept.ensures.taken, c.holding-kept.ensures.faults);
      ran = record {
        ended = ran.ended;
        complete = ran.complete;
        refused = ran.refused;
        refusal = ran.words;
        known = ran.known;
        silent = ran.silent;
        kept = ran.kept;
        absent = ran.absent;
        read_fault = ran.read_fault;
        write_fault = ran.write_fault;
        memory = ran.memory;
      };
      told = c.tell-status.ensures;
      silent = c.explain.ensures.silent;
      explanation = c.explain.ensures.explained;
    }
