use Rattle.gufi_tree_tests.proofs.store_tests.scan_alone.Given as goal

abbrev pub ghosts-scan_with : goal.ghosts-scan_with
ghosts-scan_with g a = record { name = a.blank.name; parts = a.blank.parts }
