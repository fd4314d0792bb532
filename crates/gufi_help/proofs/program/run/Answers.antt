use Rattle.gufi_help.proofs.program.run.Goals as goal

pub returns-in-Some-inserted_words-clause-inserted : goal.returns-in-Some-inserted_words-clause-inserted
returns-in-Some-inserted_words-clause-inserted g c = λ none.
    let told = c.in-Some-inserted_words.ensures in
    rw (told.0, ← told.1) c.run_behind.ensures.inserted

pub returns-in-Some-inserted_words-clause-renumbered : goal.returns-in-Some-inserted_words-clause-renumbered
returns-in-Some-inserted_words-clause-renumbered g c = λ none.
    let told = c.in-Some-inserted_words.ensures in
    rw (told.0, ← told.1) c.run_behind.ensures.renumbered

pub returns-in-Some-inserted_words-clause-explained : goal.returns-in-Some-inserted_words-clause-explained
returns-in-Some-inserted_words-clause-explained g c = λ none.
    let told = c.in-Some-inserted_words.ensures in
    rw (told.0, ← told.1) c.run_behind.ensures.explained

pub returns-in-None-inserted_words-clause-explained : goal.returns-in-None-inserted_words-clause-explained
returns-in-None-inserted_words-clause-explained g c = λ none.
    rw c.in-None-inserted_words.ensures c.run_behind-in-None-inserted_words.ensures.explained
