use Rattle.std.proofs.Common.{List, length}
use Rattle.std.specs.List.{flat_map}
use Rattle.gufi_base.specs.Paths.{Components}
use Rattle.gufi_tree.specs.Places.{path_at}
use Rattle.gufi_sums.specs.Total.{IsTotal}
use Rattle.gufi_snap.specs.Pieces.{piece}
use Rattle.gufi_walk.proofs.Walked.{IsWalk, fronts_at}
use Rattle.gufi_walk.proofs.total.total_from.Given as goal

abbrev pub invariant-loop-id : goal.invariant-loop-id
invariant-loop-id l = (done : List Components) × record {
  walk : IsWalk l.snap.tree l.who l.snap.limit (path_at l.snap.tree l.fn.start.0) done l.todo.items;
  sum : IsTotal l.sum (flat_map (λ path. piece l.snap.tree path l.snap.limit) done);
}

abbrev pub decreases-loop-id : goal.decreases-loop-id
decreases-loop-id l = length (fronts_at l.snap.tree l.who l.snap.limit l.todo.items)
