use Rattle.gufi_walk.proofs.task.WalkJob.run.Given as goal

abbrev pub ghosts-add_rows : goal.ghosts-add_rows
ghosts-add_rows g a = record { name = a.blank.name; parts = a.blank.parts }
