-- Whether a list has an element that passes one test or another.
use Rattle.std.proofs.Common.{◌≡◌, Bool, true, false, ◌||◌, List, [], ◌∷◌, sym, ◌∙◌, refl, inl, inr}
use Rattle.std.specs.List.{list_any}
use Rattle.std.proofs.lemmas.Bool.{or_right, or_left, or_cases}

pub any_weaker : {X : Type 0} (p q : X → Bool) → ((x : X) → p x ≡ true → q x ≡ true) → (xs : List X) → list_any p xs ≡ true → list_any q xs ≡ true
any_weaker p q weaker [] h = h
any_weaker p q weaker (x ∷ xs) h =
    elim (or_cases (p x) (list_any p xs) h) [
      | inl here ↦ or_left (q x) (list_any q xs) (weaker x here)
      | inr there ↦ or_right (q x) (list_any q xs) (any_weaker p q weaker xs there)
    ]

pub any_never : {X : Type 0} (p : X → Bool) → ((x : X) → p x ≡ false) → (xs : List X) → list_any p xs ≡ false
any_never p never [] = refl
any_never p never (x ∷ xs) = rw (never x) (any_never p never xs)

pub any_either : {X : Type 0} (p q : X → Bool) (xs : List X) → list_any (λ x. p x || q x) xs ≡ (list_any p xs || list_any q xs)
any_either p q [] = refl
any_either p q (x ∷ xs) = rw (any_either p q xs) (mix (p x) (q x) (list_any p xs) (list_any q xs))
  where
    mix : (a b c d : Bool) → ((a || b) || (c || d)) ≡ ((a || c) || (b || d))
    mix true b c d = refl
    mix false true true d = refl
    mix false true false d = refl
    mix false false c d = refl

-- where none passes the first test, one passes the second
pub any_second : {X : Type 0} (p q : X → Bool) (xs : List X) → list_any (λ x. p x || q x) xs ≡ true → list_any p xs ≡ false → list_any q xs ≡ true
any_second p q xs h none =
    let either : (list_any p xs || list_any q xs) ≡ true = sym (any_either p q xs) ∙ h in
    let second : list_any q xs ≡ true = rw none at either in
    second
