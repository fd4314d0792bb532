use Rattle.std.proofs.Common.{◌≡◌, ◌+◌, ◌++◌, true, List, length, filter}
use Rattle.std.specs.List.{AllByRecursion, flat_map}
use Rattle.gufi_base.specs.declared.record.Row.{Row}
use Rattle.gufi_base.specs.Paths.{Components}
use Rattle.gufi_tree.specs.Places.{path_at}
use Rattle.gufi_walk.specs.Walk.{lies_within, meets, shown_piece}
use Rattle.gufi_walk.proofs.Bounded.{ticked}
use Rattle.gufi_walk.proofs.Walked.{IsWalk, fronts_at}
use Rattle.gufi_walk.proofs.descent.add_rows_below.Given as goal

abbrev pub invariant-loop-id : goal.invariant-loop-id
invariant-loop-id g l = (done : List Components) × record {
  same : g.T.Tester.meets l.tester ≡ g.T.Tester.meets l.fn.tester;
  walk : IsWalk l.snap.tree l.who l.snap.limit (path_at l.snap.tree l.fn.start.0) done l.todo.items;
  within : AllByRecursion (λ id. lies_within (g.S.Skip.deepest l.skip) l.above (path_at l.snap.tree id.0) ≡ true) l.todo.items;
  rows : (rows : List Row) → g.Y.Yield.stands_for l.fn.out rows → g.Y.Yield.stands_for l.out (rows ++ filter (meets (g.T.Tester.meets l.fn.tester) l.above) (flat_map (shown_piece l.snap.tree l.who l.snap.limit) done));
  exact : l.steps ≡ l.fn.steps + length (ticked (g.S.Skip.skips l.skip) l.snap.tree l.snap.limit (g.S.Skip.deepest l.skip) l.above done);
}

abbrev pub decreases-loop-id : goal.decreases-loop-id
decreases-loop-id g l = length (fronts_at l.snap.tree l.who l.snap.limit l.todo.items)
