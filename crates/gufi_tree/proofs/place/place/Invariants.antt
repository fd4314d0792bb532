use Rattle.std.proofs.Common.{◌≡◌, ◌++◌, map, IsTrue}
use Rattle.std.specs.List.{list_all}
use Rattle.std.specs.List.Sorted.{IsPermutation}
use Rattle.gufi_tree.specs.Stored.{directories_of}
use Rattle.gufi_tree.specs.Gathered.{row_of_line, rows_of, has_home, paths_of}
use Rattle.gufi_tree.specs.Tree.{is_kinded}
use Rattle.gufi_tree.proofs.place.place.Given as goal

abbrev pub invariant-loop-line : goal.invariant-loop-line
invariant-loop-line l = record {
  rows : IsTrue (list_all (has_home (directories_of l.fn.stored.items)) l.yielded) → IsPermutation (rows_of l.fn.stored.items ++ map row_of_line l.yielded) (rows_of l.stored.items);
  kinds : IsTrue (list_all (has_home (directories_of l.fn.stored.items)) l.yielded) → IsTrue (list_all is_kinded (directories_of l.fn.stored.items)) → IsTrue (list_all is_kinded (directories_of l.stored.items));
  paths : paths_of l.stored.items ≡ paths_of l.fn.stored.items;
}
