use Rattle.std.proofs.Common.{◌≡◌, ◌<◌, true, length}
use Rattle.gufi_base.specs.Paths.{is_prefix}
use Rattle.gufi_tree.specs.Places.{path_at}
use Rattle.gufi_snap.specs.SumsByPlace.{AreSumsBut}
use Rattle.gufi_snap.proofs.sums.add_above.Given as goal

abbrev pub invariant-loop-above : goal.invariant-loop-above
invariant-loop-above l = record {
  within : l.place.0 < length l.tree;
  leads : is_prefix (path_at l.tree l.place.0) (path_at l.tree l.fn.at.0) ≡ true;
  sums : AreSumsBut l.tree (path_at l.tree l.fn.at.0) l.place.0 l.sums;
}

abbrev pub decreases-loop-above : goal.decreases-loop-above
decreases-loop-above l = l.place.0
