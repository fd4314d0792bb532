-- A search by halves.
use Rattle.std.proofs.Common.{◌≡◌, ℕ, ◌+◌, ◌<◌, ◌≤◌, List, length, get_or, Err, refl, ap, arith}
use Rattle.std.specs.declared.cmp.Ordering.{Ordering}
use Rattle.std.specs.declared.cmp.Ordering.TheVariants.{Less, Equal, Greater}
use Rattle.std.specs.Ordering.{ordering_index}
use Rattle.std.specs.List.Sorted.{IsBinarySearchResult, IsNonDecreasingBy}

-- all below a first place are less than what is sought, and all from a second one on are greater
pub record IsHalved {X : Type 0} (ord : X → Ordering) (xs : List X) (low high : ℕ) : Type 0 where
  pub meet : low ≤ high
  pub end : high ≤ length xs
  pub below : (k : ℕ) (d : X) → k < low → ord (get_or xs k d) ≡ Less
  pub above : (k : ℕ) (d : X) → high ≤ k → k < length xs → ord (get_or xs k d) ≡ Greater

least : (o : Ordering) → ordering_index o ≤ 0 → o ≡ Less
least Less le = refl
least Equal le = absurd (omega (arith, le))
least Greater le = absurd (omega (arith, le))

most : (o : Ordering) → 2 ≤ ordering_index o → o ≡ Greater
most Less le = absurd (omega (arith, le))
most Equal le = absurd (omega (arith, le))
most Greater le = refl

module _ {X : Type 0} (ord : X → Ordering) (xs : List X) where
  module _ (rising : IsNonDecreasingBy (λ x. ordering_index (ord x)) xs) (low high middle : ℕ) (h : IsHalved ord xs low high) (from : low ≤ middle) (to : middle < high) where
    pub halved_above : ((d : X) → ord (get_or xs middle d) ≡ Less) → IsHalved ord xs (middle + 1) high
    halved_above less = record {
      meet = omega (arith, to);
      end = h.end;
      below = λ k d lt. least (ord (get_or xs k d)) (let a = rising k middle d (omega (arith, lt)) (omega (arith, to, h.end)) in let b = ap ordering_index (less d) in omega (arith, a, b));
      above = h.above;
    }

    pub halved_below : ((d : X) → ord (get_or xs middle d) ≡ Greater) → IsHalved ord xs low middle
    halved_below greater = record {
      meet = from;
      end = omega (arith, to, h.end);
      below = h.below;
      above = λ k d le lt. most (ord (get_or xs k d)) (let a = rising middle k d le lt in let b = ap ordering_index (greater d) in omega (arith, a, b));
    }

  -- nothing is there that is sought
  pub halved_none : (low high : ℕ) → IsHalved ord xs low high → high ≤ low → IsBinarySearchResult ord xs (Err low)
  halved_none low high h le = λ rising. (λ k d from lt. h.below k d lt, λ k d from lt. h.above k d (omega (arith, from, le)) lt)
