use Rattle.gufi_tree_tests.proofs.walkers_tests.assert_same.Given as goal

abbrev pub ghosts-lines_alone : goal.ghosts-lines_alone
ghosts-lines_alone g a = record { name = a.blank.name; parts = a.blank.parts }
