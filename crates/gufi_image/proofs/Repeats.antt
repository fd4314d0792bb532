-- Reading parts one after the other, as a loop does.
use Rattle.std.proofs.Common.{◌≡◌, ℕ, suc, ◌-◌, ◌+◌, ◌<◌, List, Result, Ok, Err, refl, sym, ap, ◌∙◌, arith}
use Rattle.gufi_base.specs.Basics.{◌>>=◌}
use Rattle.gufi_image.specs.declared.fault.Flaw.{Flaw}
use Rattle.gufi_image.specs.declared.fault.Refused.{Refused}
use Rattle.gufi_image.specs.declared.fault.Refused.TheVariants as refusals
use Rattle.gufi_image.specs.Fields.{Refuses}
use Rattle.gufi_image.specs.Repeated.{repeated}

-- the value of a step that did not fail
pub bind_ok : {A B : Type 0} (r : Result A Flaw) (f : A → Result B Flaw) (y : B) → (r >>= f) ≡ Ok y → (x : A) × (r ≡ Ok x) × (f x ≡ Ok y)
bind_ok (Ok x) f y e = (x, refl, e)
bind_ok (Err d) f y e = absurd cc

-- a step that was refused, and one that wasn't
pub refuses_then : {A B : Type 0} (e : Refused) (r : Result A Flaw) (f : A → Result B Flaw) → Refuses e r → Refuses e (r >>= f)
refuses_then refusals.Memory r f h = tt
refuses_then {A} (refusals.Flaw d) r f h = ap (λ (x : Result A Flaw). x >>= f) h

module _ {S : Type 0} (step : S → List ℕ → Result (S × List ℕ) Flaw) where
  pub goes_on : (count i : ℕ) (front more : S) (bytes after : List ℕ) (whole : Result (S × List ℕ) Flaw) → i < count → step front bytes ≡ Ok (more, after)
      → repeated step (count - i) front bytes ≡ whole → repeated step (count - (i + 1)) more after ≡ whole
  goes_on count i front more bytes after whole lt h so_far =
      let k : count - i ≡ suc (count - (i + 1)) = omega arith in
      let one : repeated step (count - i) front bytes ≡ repeated step (count - (i + 1)) more after = rw (k, h) refl in
      sym one ∙ so_far

  pub stops : (e : Refused) (count i : ℕ) (front : S) (bytes : List ℕ) (whole : Result (S × List ℕ) Flaw) → i < count → Refuses e (step front bytes)
      → repeated step (count - i) front bytes ≡ whole → Refuses e whole
  stops refusals.Memory count i front bytes whole lt h so_far = tt
  stops (refusals.Flaw f) count i front bytes whole lt h so_far =
      let k : count - i ≡ suc (count - (i + 1)) = omega arith in
      let one : repeated step (count - i) front bytes ≡ Err f = rw (k, h) refl in
      sym so_far ∙ one
