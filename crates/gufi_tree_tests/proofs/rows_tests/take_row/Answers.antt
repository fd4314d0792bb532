use Rattle.std.proofs.Common.{arith, [], ◌∷◌, ◌++◌, length-append}
use Rattle.gufi_tree_tests.proofs.rows_tests.take_row.Goals as goal

pub returns-clause-count : goal.returns-clause-count
returns-clause-count g c =
    let counted = g.met.Y.Yield.counted in
    let given = c.requires.rows in
    let row = c.row_of.ensures in
    omega (arith, counted _ _ given.1, counted _ _ (c.in_ok-take.ensures row.0 given.0 row.1 given.1), length-append given.0 (row.0 ∷ []))

pub returns-clause-rows : goal.returns-clause-rows
returns-clause-rows g c =
    let given = c.requires.rows in
    let row = c.row_of.ensures in
    (given.0 ++ row.0 ∷ [], c.in_ok-take.ensures row.0 given.0 row.1 given.1)
