use Rattle.std.proofs.Common.{◌≡◌, ◌<◌, ◌≤◌, ◌-◌, length, take}
use Rattle.std.specs.List.{flat_map}
use Rattle.gufi_tree.specs.Tree.{own_rows}
use Rattle.gufi_tree.specs.Places.{path_at}
use Rattle.gufi_tree.proofs.Below.{below_dirs}
use Rattle.gufi_roll.proofs.known.has_few_rows.Given as goal

abbrev pub invariant-loop-rows : goal.invariant-loop-rows
invariant-loop-rows l = record {
  some : 0 < l.seen;
  few : l.seen ≤ length (below_dirs l.tree (path_at l.tree l.fn.id.0));
  rows : l.rows ≡ length (flat_map own_rows (take l.seen (below_dirs l.tree (path_at l.tree l.fn.id.0))));
}

abbrev pub decreases-loop-rows : goal.decreases-loop-rows
decreases-loop-rows l = length (below_dirs l.tree (path_at l.tree l.fn.id.0)) - l.seen
