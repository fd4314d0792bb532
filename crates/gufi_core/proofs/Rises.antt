-- What callers have seen never falls.
use Rattle.std.proofs.Common.{◌≡◌, ℕ, zero, suc, ◌≤◌, true, List, [], ◌∷◌, length, set, refl, ap, ◌∙◌, arith}
use Rattle.std.specs.Prelude.{nat_le, ◌&&◌, ◌==◌, zip, replicate}
use Rattle.std.specs.List.{list_all}
use Rattle.std.proofs.lemmas.Bool.Decides.{nat_tests}
use Rattle.gufi_core.specs.Interleavings.{none_falls}
use Rattle.gufi_core.proofs.Shapes.{both}

-- each number is at most the one at its place
abbrev pub Rises : List ℕ → List ℕ → Type 0
Rises [] [] = Unit {0}
Rises [] (y ∷ ys) = ⊥
Rises (x ∷ xs) [] = ⊥
Rises (x ∷ xs) (y ∷ ys) = (x ≤ y) × Rises xs ys

is_le : (x y : ℕ) → x ≤ y → nat_le x y ≡ true
is_le x y le = grind (arith, nat_tests)

pub le_of : (x y : ℕ) → nat_le x y ≡ true → x ≤ y
le_of x y e = grind (arith, nat_tests)

is_same : (x y : ℕ) → x ≡ y → (x == y) ≡ true
is_same x y e = grind (arith, nat_tests)

rises_length : (xs ys : List ℕ) → Rises xs ys → length xs ≡ length ys
rises_length [] [] r = refl
rises_length [] (y ∷ ys) r = absurd r
rises_length (x ∷ xs) [] r = absurd r
rises_length (x ∷ xs) (y ∷ ys) r = ap suc (rises_length xs ys r.1)

rises_pairs : (xs ys : List ℕ) → Rises xs ys → list_all (λ (pair : ℕ × ℕ). nat_le pair.0 pair.1) (zip xs ys) ≡ true
rises_pairs [] [] r = refl
rises_pairs [] (y ∷ ys) r = absurd r
rises_pairs (x ∷ xs) [] r = absurd r
rises_pairs (x ∷ xs) (y ∷ ys) r = ap (λ b. b && list_all (λ (pair : ℕ × ℕ). nat_le pair.0 pair.1) (zip xs ys)) (is_le x y r.0) ∙ rises_pairs xs ys r.1

pub none_falls_of : (xs ys : List ℕ) → Rises xs ys → none_falls xs ys ≡ true
none_falls_of xs ys r =
    ap (λ b. b && list_all (λ (pair : ℕ × ℕ). nat_le pair.0 pair.1) (zip xs ys)) (is_same (length xs) (length ys) (rises_length xs ys r)) ∙ rises_pairs xs ys r

pub rises_same : (xs : List ℕ) → Rises xs xs
rises_same [] = tt
rises_same (x ∷ xs) = (omega arith, rises_same xs)

pub rises_on : (xs ys zs : List ℕ) → Rises xs ys → Rises ys zs → Rises xs zs
rises_on [] [] [] r s = tt
rises_on [] [] (z ∷ zs) r s = s
rises_on [] (y ∷ ys) zs r s = absurd r
rises_on (x ∷ xs) [] zs r s = absurd r
rises_on (x ∷ xs) (y ∷ ys) [] r s = absurd s
rises_on (x ∷ xs) (y ∷ ys) (z ∷ zs) r s = ((let a = r.0 in let b = s.0 in omega arith), rises_on xs ys zs r.1 s.1)

-- where one number is set to a bound of all
pub rises_set : (xs : List ℕ) (i n : ℕ) → list_all (λ x. nat_le x n) xs ≡ true → Rises xs (set xs i n)
rises_set [] i n all = tt
rises_set (x ∷ xs) zero n all = let t = both (nat_le x n) (list_all (λ y. nat_le y n) xs) all in (le_of x n t.0, rises_same xs)
rises_set (x ∷ xs) (suc i) n all = let t = both (nat_le x n) (list_all (λ y. nat_le y n) xs) all in (omega arith, rises_set xs i n t.1)

pub bounded_set : (xs : List ℕ) (i n : ℕ) → list_all (λ x. nat_le x n) xs ≡ true → list_all (λ x. nat_le x n) (set xs i n) ≡ true
bounded_set [] i n all = refl
bounded_set (x ∷ xs) zero n all = let t = both (nat_le x n) (list_all (λ y. nat_le y n) xs) all in ap (λ b. b && list_all (λ y. nat_le y n) xs) (is_le n n (omega arith)) ∙ t.1
bounded_set (x ∷ xs) (suc i) n all = let t = both (nat_le x n) (list_all (λ y. nat_le y n) xs) all in ap (λ b. b && list_all (λ y. nat_le y n) (set xs i n)) t.0 ∙ bounded_set xs i n t.1

pub bounded_more : (xs : List ℕ) (n m : ℕ) → n ≤ m → list_all (λ x. nat_le x n) xs ≡ true → list_all (λ x. nat_le x m) xs ≡ true
bounded_more [] n m le all = refl
bounded_more (x ∷ xs) n m le all =
    let t = both (nat_le x n) (list_all (λ y. nat_le y n) xs) all in
    let here = le_of x n t.0 in
    ap (λ b. b && list_all (λ y. nat_le y m) xs) (is_le x m (omega arith)) ∙ bounded_more xs n m le t.1

pub bounded_none : (n m : ℕ) → list_all (λ x. nat_le x m) (replicate n 0) ≡ true
bounded_none zero m = refl
bounded_none (suc n) m = ap (λ b. b && list_all (λ y. nat_le y m) (replicate n 0)) (is_le 0 m (omega arith)) ∙ bounded_none n m
