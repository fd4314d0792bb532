use Rattle.gufi_snap.proofs.snapshot.Snapshot.build_uncounted.Given as goal

abbrev pub ghosts-build_with : goal.ghosts-build_with
ghosts-build_with a = record { name = a.blank.name; parts = a.blank.parts }
