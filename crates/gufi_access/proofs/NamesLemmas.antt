-- Which IDs are named in a list, and which are admitted.
use Rattle.std.proofs.Common.{◌≡◌, ℕ, Bool, true, false, not, ◌==◌, ◌||◌, ◌&&◌, List, [], ◌∷◌, refl, subst, inl, inr, true≢false}
use Rattle.std.specs.List.{list_all}
use Rattle.std.proofs.Math.Bool.{and-false}
use Rattle.std.proofs.lemmas.Bool.{cases_Bool, not-true, eq-eqb, eqb-true, or_right, or_left, or_cases, and_from, and_parts}
use Rattle.gufi_access.specs.Tried.{Named, names, admits}

pub admitted_named : (es : List Named) (g : ℕ) → admits g es ≡ true → names g es ≡ true
admitted_named [] g h = h
admitted_named (e ∷ es) g h =
    elim (or_cases ((e.id == g) && e.ok) (admits g es) h) [
      | inl here ↦ or_left (e.id == g) (names g es) (and_parts (e.id == g) e.ok here).0
      | inr there ↦ or_right (e.id == g) (names g es) (admitted_named es g there)
    ]

pub unnamed_admits : (es : List Named) (g : ℕ) → names g es ≡ false → admits g es ≡ false
unnamed_admits es g none =
    elim (cases_Bool (admits g es)) [
      | inl admitted ↦ let named = admitted_named es g admitted in cc
      | inr not_admitted ↦ not_admitted
    ]

-- what holds at each ID that is named
pub at_named : (q : ℕ → Bool) (es : List Named) → list_all (λ e. q e.id) es ≡ true → (g : ℕ) → names g es ≡ true → q g ≡ true
at_named q [] all g h = cc
at_named q (e ∷ es) all g h =
    let parts = and_parts (q e.id) (list_all (λ e. q e.id) es) all in
    elim (or_cases (e.id == g) (names g es) h) [
      | inl same ↦ subst (λ (x : ℕ). q x ≡ true) (eqb-true e.id g same) parts.0
      | inr later ↦ at_named q es parts.1 g later
    ]

pub all_named : (q : ℕ → Bool) (es : List Named) → ((g : ℕ) → names g es ≡ true → q g ≡ true) → list_all (λ e. q e.id) es ≡ true
all_named q [] each = refl
all_named q (e ∷ es) each =
    and_from (q e.id) (list_all (λ e. q e.id) es)
    (each e.id (or_left (e.id == e.id) (names e.id es) (eq-eqb e.id e.id refl)))
    (all_named q es (λ g later. each g (or_right (e.id == g) (names g es) later)))

-- the same of those that are admitted
pub at_admitted : (q : ℕ → Bool) (es : List Named) → list_all (λ e. not e.ok || q e.id) es ≡ true → (g : ℕ) → admits g es ≡ true → q g ≡ true
at_admitted q [] all g h = cc
at_admitted q (e ∷ es) all g h =
    let parts = and_parts (not e.ok || q e.id) (list_all (λ e. not e.ok || q e.id) es) all in
    elim (or_cases ((e.id == g) && e.ok) (admits g es) h) [
      | inl here ↦
          let both = and_parts (e.id == g) e.ok here in
          let holds : (not true || q e.id) ≡ true = rw both.1 at parts.0 in
          subst (λ (x : ℕ). q x ≡ true) (eqb-true e.id g both.0) holds
      | inr later ↦ at_admitted q es parts.1 g later
    ]

pub all_admitted : (q : ℕ → Bool) (es : List Named) → ((g : ℕ) → admits g es ≡ true → q g ≡ true) → list_all (λ e. not e.ok || q e.id) es ≡ true
all_admitted q [] each = refl
all_admitted q (e ∷ es) each =
    and_from (not e.ok || q e.id) (list_all (λ e. not e.ok || q e.id) es)
    (elim (cases_Bool e.ok) [
      | inl ok ↦ or_right (not e.ok) (q e.id) (each e.id (or_left ((e.id == e.id) && e.ok) (admits e.id es) (and_from (e.id == e.id) e.ok (eq-eqb e.id e.id refl) ok)))
      | inr denied ↦ rw denied refl
    ])
    (all_admitted q es (λ g later. each g (or_right ((e.id == g) && e.ok) (admits g es) later)))

pub none_admitted : (es : List Named) → list_all (λ e. not e.ok) es ≡ true → (g : ℕ) → admits g es ≡ false
none_admitted [] all g = refl
none_admitted (e ∷ es) all g =
    let parts = and_parts (not e.ok) (list_all (λ e. not e.ok) es) all in
    rw (not-true e.ok parts.0, and-false (e.id == g)) (none_admitted es parts.1 g)

pub no_ok : (es : List Named) → ((g : ℕ) → admits g es ≡ false) → list_all (λ e. not e.ok) es ≡ true
no_ok [] none = refl
no_ok (e ∷ es) none =
    and_from (not e.ok) (list_all (λ e. not e.ok) es)
    (elim (cases_Bool e.ok) [
      | inl ok ↦
          let admitted : admits e.id (e ∷ es) ≡ true = or_left ((e.id == e.id) && e.ok) (admits e.id es) (and_from (e.id == e.id) e.ok (eq-eqb e.id e.id refl) ok) in
          let not_admitted = none e.id in
          cc
      | inr denied ↦ rw denied refl
    ])
    (no_ok es (λ g. later ((e.id == g) && e.ok) (admits g es) (none g)))
  where
    later : (x y : Bool) → (x || y) ≡ false → y ≡ false
    later true y h = absurd (true≢false h)
    later false y h = h
