use Rattle.std.proofs.Common.{◌≡◌, ℕ, ◌<◌, length, get_or}
use Rattle.gufi_tree.specs.Shape.{IsSoundAt}
use Rattle.gufi_tree.proofs.shape.tree_parents.Given as goal

abbrev pub invariant-loop-place : goal.invariant-loop-place
invariant-loop-place l = record {
  len : length l.parents.items ≡ l.place;
  each : (k : ℕ) → k < l.place → IsSoundAt l.dirs k (get_or l.parents.items k 0);
}
