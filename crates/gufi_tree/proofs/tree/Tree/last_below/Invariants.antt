use Rattle.std.proofs.Common.{◌≡◌, ℕ, ◌-◌, ◌<◌, ◌≤◌, true, length}
use Rattle.gufi_base.specs.Paths.{is_prefix}
use Rattle.gufi_tree.specs.Places.{path_at}
use Rattle.gufi_tree.proofs.tree.Tree.last_below.Given as goal

abbrev pub invariant-levels : goal.invariant-levels
invariant-levels l = record {
  order : l.fn.id.0 ≤ l.last.0;
  within : l.last.0 < length l.self;
  below : is_prefix (path_at l.self l.fn.id.0) (path_at l.self l.last.0) ≡ true;
  on : (k : ℕ) → l.last.0 < k → k < length l.self → is_prefix (path_at l.self l.fn.id.0) (path_at l.self k) ≡ true → is_prefix (path_at l.self l.last.0) (path_at l.self k) ≡ true;
}

abbrev pub decreases-levels : goal.decreases-levels
decreases-levels l = length l.self - l.last.0
