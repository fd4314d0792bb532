use Rattle.gufi_snap.proofs.stores.sums_uncounted.Given as goal

abbrev pub ghosts-sums_with : goal.ghosts-sums_with
ghosts-sums_with a = record { name = a.blank.name; parts = a.blank.parts }
