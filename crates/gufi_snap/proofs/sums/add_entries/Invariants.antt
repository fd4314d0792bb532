use Rattle.std.proofs.Common.{◌≡◌, ◌+◌, List, ◌++◌, map, take}
use Rattle.gufi_base.specs.declared.record.Row.{Row}
use Rattle.gufi_base.specs.Paths.{Components}
use Rattle.gufi_tree.specs.Tree.{entry_row}
use Rattle.gufi_sums.specs.Total.{rows_in, IsBounded, IsTotal}
use Rattle.gufi_snap.proofs.sums.add_entries.Given as goal

abbrev pub invariant-loop-place : goal.invariant-loop-place
invariant-loop-place l = record {
  counted : rows_in l.sum ≡ rows_in l.fn.sum + l.place;
  bounded : IsBounded l.sum;
  rows : (path : Components) (rows : List Row) → IsTotal l.fn.sum rows → IsTotal l.sum (rows ++ map (entry_row path) (take l.place l.entries));
}
