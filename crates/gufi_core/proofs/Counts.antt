-- Counts of the members of lists.
use Rattle.std.proofs.Common.{◌≡◌, ◌≢◌, ℕ, zero, suc, ◌<◌, ◌≤◌, ◌⊎◌, inl, inr, ⊎_elim, Bool, true, false, cond, eqb, List, [], ◌∷◌, length, get_or, sum_by, refl, ap, subst, arith, Contains}
use Rattle.std.specs.List.{flat_map}
use Rattle.std.proofs.lemmas.Bool.Decides.{eqb_tells}
use Rattle.std.proofs.lemmas.List.Sums.{sum_by-cons, sum_by-append, get_or-le-sum_by}
use Rattle.gufi_core.specs.Steps.{count_of}

-- 1 for a number, 0 for all others
abbrev pub one : ℕ → ℕ → ℕ
one x = λ y. cond (eqb y x) 1 0

pub one_yes : (x y : ℕ) → eqb y x ≡ true → one x y ≡ 1
one_yes x y e = ap (λ (b : Bool). cond b 1 0) e

pub one_no : (x y : ℕ) → eqb y x ≡ false → one x y ≡ 0
one_no x y e = ap (λ (b : Bool). cond b 1 0) e

pub later : (y x : ℕ) (xs : List ℕ) → Contains xs x → Contains (y ∷ xs) x
later y x xs c = (suc c.0, (let lt = c.1 in omega arith), c.2)

pub contains_counted : (x : ℕ) (xs : List ℕ) → 0 < count_of xs x → Contains xs x
contains_counted x [] some = absurd (omega arith)
contains_counted x (y ∷ ys) some =
    ⊎_elim (λ (yes : (eqb y x ≡ true) × (y ≡ x)). (0, omega arith, yes.1))
    (λ (no : (eqb y x ≡ false) × (y ≢ x)). later y x ys (contains_counted x ys (let z = one_no x y no.0 in omega (arith, sum_by-cons (one x) y ys))))
    (eqb_tells y x)

counted_at : (x : ℕ) (xs : List ℕ) (k : ℕ) → k < length xs → get_or xs k x ≡ x → 0 < count_of xs x
counted_at x [] k lt is = absurd (omega arith)
counted_at x (y ∷ ys) zero lt is =
    ⊎_elim (λ (yes : (eqb y x ≡ true) × (y ≡ x)). let z = one_yes x y yes.0 in omega (arith, sum_by-cons (one x) y ys))
    (λ (no : (eqb y x ≡ false) × (y ≢ x)). absurd (no.1 is)) (eqb_tells y x)
counted_at x (y ∷ ys) (suc k) lt is = let r = counted_at x ys k (omega arith) is in omega (arith, sum_by-cons (one x) y ys)

pub counted_contains : (x : ℕ) (xs : List ℕ) → Contains xs x → 0 < count_of xs x
counted_contains x xs has = counted_at x xs has.0 has.1 has.2

pub term_le : (f : ℕ → ℕ) (xs : List ℕ) (x : ℕ) → Contains xs x → f x ≤ sum_by f xs
term_le f xs x has = subst (λ y. f y ≤ sum_by f xs) has.2 (get_or-le-sum_by f xs has.0 x has.1)

abbrev pub SomeTerm : (ℕ → ℕ) → List ℕ → Type 0
SomeTerm f xs = (y : ℕ) × Contains xs y × (0 < f y)

some_first : (f : ℕ → ℕ) (x : ℕ) (xs : List ℕ) (n : ℕ) → n ≡ f x → (sum_by f xs ≡ 0) ⊎ SomeTerm f xs → (sum_by f (x ∷ xs) ≡ 0) ⊎ SomeTerm f (x ∷ xs)
some_first f x xs (suc n) e rest = inr (x, (0, omega arith, refl), omega arith)
some_first f x xs zero e rest =
    ⊎_elim (λ (z : sum_by f xs ≡ 0). inl (omega (arith, sum_by-cons f x xs))) (λ (s : SomeTerm f xs). inr (s.0, later x s.0 xs s.1, s.2)) rest

-- a sum is 0, or has a term that isn't
pub some_term : (f : ℕ → ℕ) (xs : List ℕ) → (sum_by f xs ≡ 0) ⊎ SomeTerm f xs
some_term f [] = inl refl
some_term f (x ∷ xs) = some_first f x xs (f x) refl (some_term f xs)

-- where only p has a term that isn't 0
pub one_term : (f : ℕ → ℕ) (p : ℕ) (xs : List ℕ) → ((y : ℕ) → Contains xs y → 0 < f y → y ≡ p) → f p ≤ 1 → sum_by f xs ≤ count_of xs p
one_term f p [] only le = omega arith
one_term f p (x ∷ xs) only le =
    let rest = one_term f p xs (λ y has. only y (later x y xs has)) le in
    let mine : 0 < f x → x ≡ p = only x (0, omega arith, refl) in
    ⊎_elim (λ (yes : (eqb x p ≡ true) × (x ≡ p)). let z = one_yes p x yes.0 in let e = ap f yes.1 in omega (arith, sum_by-cons f x xs, sum_by-cons (one p) x xs))
    (λ (no : (eqb x p ≡ false) × (x ≢ p)).
    let none : ¬ (0 < f x) = λ some. no.1 (mine some) in
    let z = one_no p x no.0 in
    omega (arith, sum_by-cons f x xs, sum_by-cons (one p) x xs))
    (eqb_tells x p)

-- a sum over all that the members give
pub sum_flat : {X : Type 0} (h : ℕ → ℕ) (f : X → List ℕ) (xs : List X) → sum_by h (flat_map f xs) ≡ sum_by (λ x. sum_by h (f x)) xs
sum_flat h f [] = refl
sum_flat h f (x ∷ xs) = omega (arith, sum_by-append h (f x) (flat_map f xs), sum_flat h f xs, sum_by-cons (λ y. sum_by h (f y)) x xs)
