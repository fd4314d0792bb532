use Rattle.std.proofs.Common.{◌≡◌, ◌++◌, List, take}
use Rattle.gufi_base.specs.declared.record.Row.{Row}
use Rattle.gufi_store.specs.Scan.{rows_met_in}
use Rattle.gufi_store.proofs.scan_fold.Given as goal

abbrev pub invariant-loop-place : goal.invariant-loop-place
invariant-loop-place g l = record {
  same : g.T.Tester.meets l.tester ≡ g.T.Tester.meets l.fn.tester;
  rows : (rows : List Row) → g.Y.Yield.stands_for l.fn.out rows
      → g.Y.Yield.stands_for l.out (rows ++ rows_met_in l.above (g.T.Tester.meets l.fn.tester) (g.V.View.shows l.view) (take l.place l.stores));
}
