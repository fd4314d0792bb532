use Rattle.std.proofs.Common.{◌≡◌, ℕ, ◌+◌, ◌<◌, length, get_or}
use Rattle.gufi_tree.specs.Tree.{Directory, own_rows}
use Rattle.gufi_sums.specs.declared.summary.Summary.{Summary}
use Rattle.gufi_sums.specs.Total.{IsTotal}
use Rattle.gufi_snap.proofs.stores.sum_stores.Given as goal

abbrev pub invariant-loop-place : goal.invariant-loop-place
invariant-loop-place g l = record {
  ticks : l.steps ≡ l.fn.steps + l.place;
  len : length l.sums.own ≡ l.place;
  both : l.sums.below ≡ l.sums.own;
  each : (k : ℕ) (d : Directory) (s : Summary) → k < l.place → IsTotal (get_or l.sums.own k s) (own_rows (get_or l.tree k d));
}
