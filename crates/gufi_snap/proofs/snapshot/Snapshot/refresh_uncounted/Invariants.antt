use Rattle.gufi_snap.proofs.snapshot.Snapshot.refresh_uncounted.Given as goal

abbrev pub ghosts-refresh_with : goal.ghosts-refresh_with
ghosts-refresh_with a = record { name = a.blank.name; parts = a.blank.parts }
