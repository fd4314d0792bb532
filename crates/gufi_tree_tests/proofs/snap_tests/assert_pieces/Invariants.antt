use Rattle.gufi_tree_tests.proofs.snap_tests.assert_pieces.Given as goal

abbrev pub ghosts-scanned : goal.ghosts-scanned
ghosts-scanned g a = record { name = a.blank.name; parts = a.blank.parts }
