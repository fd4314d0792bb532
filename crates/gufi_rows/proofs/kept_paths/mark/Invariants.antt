use Rattle.std.proofs.Common.{◌≡◌, ℕ, ◌<◌, ◌≤◌, length, get_or, nat_lt}
use Rattle.gufi_rows.specs.declared.spot.Spot.{Spot}
use Rattle.gufi_rows.specs.PathLists.{follower}
use Rattle.gufi_rows.proofs.kept_paths.mark.Given as goal

abbrev pub invariant-loop-k : goal.invariant-loop-k
invariant-loop-k l = record {
  size : length l.spots.items ≡ length l.fn.spots.items;
  marked : (j : ℕ) (d : Spot) → j < l.k → get_or l.spots.items j d ≡ follower (nat_lt 0 j) (get_or l.fn.spots.items j d);
  rest : (j : ℕ) (d : Spot) → l.k ≤ j → get_or l.spots.items j d ≡ get_or l.fn.spots.items j d;
}
