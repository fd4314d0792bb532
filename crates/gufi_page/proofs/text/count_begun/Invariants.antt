use Rattle.std.proofs.Common.{ℕ, ◌<◌, ◌≤◌, ◌-◌, length, get_or}
use Rattle.gufi_page.specs.Packed.{no_stem}
use Rattle.gufi_page.proofs.text.count_begun.Given as goal

abbrev pub invariant-halving : goal.invariant-halving
invariant-halving l = record {
  order : l.low ≤ l.high;
  within : l.high ≤ length l.stems;
  below : (i : ℕ) → i < l.low → (get_or l.stems i no_stem).first ≤ l.k;
  behind : (i : ℕ) → l.high ≤ i → i < length l.stems → l.k < (get_or l.stems i no_stem).first;
}

abbrev pub decreases-halving : goal.decreases-halving
decreases-halving l = l.high - l.low
