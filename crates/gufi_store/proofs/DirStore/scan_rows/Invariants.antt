use Rattle.std.proofs.Common.{◌≡◌, ◌+◌, ◌++◌, List, take, map}
use Rattle.std.specs.List.{filter}
use Rattle.gufi_base.specs.declared.record.Row.{Row}
use Rattle.gufi_tree.specs.Tree.{own_rows}
use Rattle.gufi_store.specs.Scan.{is_met}
use Rattle.gufi_store.proofs.DirStore.scan_rows.Given as goal

abbrev pub invariant-loop-place : goal.invariant-loop-place
invariant-loop-place g l = record {
  same : g.T.Tester.meets l.tester ≡ g.T.Tester.meets l.fn.tester;
  rows : (rows : List Row) → g.Y.Yield.stands_for l.fn.out rows
      → g.Y.Yield.stands_for l.out (rows ++ filter (is_met l.above (g.T.Tester.meets l.fn.tester)) (map (g.V.View.shows l.view) (take (l.place + 1) (own_rows l.self))));
}
