use Rattle.std.proofs.Common.{arith, [], ◌∷◌}
use Rattle.gufi_index_tests.proofs.sums_tests.sum_of_one_row.Goals as goal

pub merge-requires-clause-room : goal.merge-requires-clause-room
merge-requires-clause-room g c =
    let counted = g.met.Y.Yield.counted in
    let taken = c.in_ok-take.ensures c.requires.0 [] c.requires.1 c.in_ok-all.ensures in
    omega (arith, counted _ _ taken, counted _ _ c.in_ok-none.ensures)

pub merge-requires-clause-rows : goal.merge-requires-clause-rows
merge-requires-clause-rows g c = (c.requires.0 ∷ [], c.in_ok-take.ensures c.requires.0 [] c.requires.1 c.in_ok-all.ensures)
