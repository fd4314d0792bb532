-- Each kind of step keeps the rule of publication.
use Rattle.std.proofs.Common.{◌≡◌, ℕ, ◌≤◌, ◌≢◌, max, List, set, refl, subst, ⊎_elim, le_refl, le_trans, zero-le, arith}
use mathlib.Core.Option.{some}
use lib.ListN.{get_elem?}
use Rattle.crossbeam_utils.specs.Register.{Admits, TurnsAt, Forks, Merges}
use Rattle.atomic_table.proofs.Lists.{at_set, at_snoc}
use Rattle.gufi_hub.specs.Rule.{Keeps, Sees}

module _ {S : Type 0} (number : S → ℕ) where
  -- a new seat may come at any time
  pub admits : Admits (Keeps number) 0
  admits x views h seat v at = ⊎_elim (h seat v) (λ (e : 0 ≡ v). subst (λ (z : ℕ). z ≤ number x) e zero-le) (at_snoc views 0 v seat at)

  set_fits : (x : S) (views : List ℕ) (seat w : ℕ) → Keeps number x views → w ≤ number x → (Keeps number) x (set views seat w)
  set_fits x views seat w h low j u e = ⊎_elim (λ (t : (j ≡ seat) × (w ≡ u)). subst (λ (z : ℕ). z ≤ number x) t.1 low) (λ (t : (j ≢ seat) × (get_elem? views j ≡ some u)). h j u t.1) (at_set views seat j w u e)

  -- a seat that looks at a step that does not lower the number sees the number after it
  pub sights : (seat v : ℕ) (x y : S) → number x ≤ number y → TurnsAt (Keeps number) seat v x y (Sees number)
  sights seat v x y up views h at = (number y, set_fits y views seat (number y) (λ j u e. le_trans (h j u e) up) (le_refl (number y)), (h seat v at, refl))

  -- a seat that is cut off knows what the other knows
  pub forks : (seat v : ℕ) → Forks (Keeps number) seat v v v
  forks seat v x views h at j u e = let fits = h seat v at in ⊎_elim (set_fits x views seat v h fits j u) (λ (same : v ≡ u). subst (λ (z : ℕ). z ≤ number x) same fits) (at_snoc (set views seat v) v u j e)

  -- a seat takes in another, whose view is spent
  pub merges : (seat v other w : ℕ) → Merges (Keeps number) seat v other w (max v w) 0
  merges seat v other w x views h at apart there = let a = h seat v at in
      let b : w ≤ number x = ⊎_elim (λ (t : (other ≡ seat) × (max v w ≡ w)). absurd (apart t.0)) (λ (t : (other ≢ seat) × (get_elem? views other ≡ some w)). h other w t.1) (at_set views seat other (max v w) w there) in
      set_fits x (set views seat (max v w)) other 0 (set_fits x views seat (max v w) h (omega arith)) zero-le
