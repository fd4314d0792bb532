use Rattle.gufi_help.proofs.program.run_behind.Goals as goal

pub returns-in-Some-clause-explained : goal.returns-in-Some-clause-explained
returns-in-Some-clause-explained g c =
    let told = c.in-Some.ensures in
    rw (told.0, ← told.1) c.run_explained.ensures
