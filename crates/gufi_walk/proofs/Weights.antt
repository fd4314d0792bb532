-- Lists that weigh the same, whatever each element weighs, have the same elements.
use Rattle.std.proofs.Common.{◌≡◌, ℕ, ◌<◌, Bool, true, false, cond, List, [], ◌∷◌, ◌++◌, map, refl, sym, ap, subst, arith, sum_by}
use Rattle.std.specs.Bool.{Decides}
use Rattle.std.specs.List.{flat_map}
use Rattle.std.specs.List.Sorted.{IsPermutation}
use Rattle.std.proofs.lemmas.List.Sums.{sum_by-cons, sum_by-append}
use Rattle.std.proofs.lemmas.List.Sorted.{IsPermutation-refl, IsPermutation-trans, IsPermutation-sym, IsPermutation-cons, IsPermutation-middle}

module _ {X : Type 0} (eq : X → X → Bool) (decides : (x y : X) → Decides (eq x y) (x ≡ y)) where
  abbrev alike : X → X → ℕ
  alike x y = cond (eq x y) 1 0

  record IsSplit (x : X) (ys : List X) : Type 0 where
    before : List X
    behind : List X
    is : ys ≡ before ++ x ∷ behind

  find : (x : X) (ys : List X) → 0 < sum_by (alike x) ys → IsSplit x ys
  find x [] some = absurd (omega arith)
  find x (y ∷ ys) some = by (eq x y) refl (find x ys) where
    by : (b : Bool) → eq x y ≡ b → (0 < sum_by (alike x) ys → IsSplit x ys) → IsSplit x (y ∷ ys)
    by true e more = record { before = []; behind = ys; is = ap (λ z. z ∷ ys) (sym ((decides x y).0 e)) }
    by false e more =
        let z : alike x y ≡ 0 = ap (λ b. cond b 1 0) e in
        let r = more (omega (arith, sum_by-cons (alike x) y ys)) in
        record { before = y ∷ r.before; behind = r.behind; is = ap (λ l. y ∷ l) r.is }

  pub weigh_alike : (xs ys : List X) → ((h : X → ℕ) → sum_by h xs ≡ sum_by h ys) → IsPermutation xs ys
  weigh_alike [] [] same = IsPermutation-refl []
  weigh_alike [] (y ∷ ys) same = absurd (let s = same (λ _. 1) in omega (arith, sum_by-cons (λ (_ : X). 1) y ys))
  weigh_alike (x ∷ xs) ys same =
      let here : alike x x ≡ 1 = ap (λ b. cond b 1 0) ((decides x x).1 refl) in
      let s = same (alike x) in
      let w = find x ys (omega (arith, sum_by-cons (alike x) x xs)) in
      let rest : IsPermutation xs (w.before ++ w.behind) = weigh_alike xs (w.before ++ w.behind) (λ h.
      let t = same h in
      let u = ap (sum_by h) w.is in
      omega (arith, sum_by-cons h x xs, sum_by-append h w.before (x ∷ w.behind), sum_by-cons h x w.behind, sum_by-append h w.before w.behind)) in
      subst (IsPermutation (x ∷ xs)) (sym w.is)
      (IsPermutation-trans _ _ _ (IsPermutation-cons x _ _ rest) (IsPermutation-sym _ _ (IsPermutation-middle w.before x w.behind)))

pub sum_by-map : {X Y : Type 0} (f : X → Y) (h : Y → ℕ) (xs : List X) → sum_by h (map f xs) ≡ sum_by (λ x. h (f x)) xs
sum_by-map f h [] = refl
sum_by-map f h (x ∷ xs) = omega (arith, sum_by-cons h (f x) (map f xs), sum_by-cons (λ y. h (f y)) x xs, sum_by-map f h xs)

pub sum_by-flat : {X Y : Type 0} (h : Y → ℕ) (f : X → List Y) (xs : List X) → sum_by h (flat_map f xs) ≡ sum_by (λ x. sum_by h (f x)) xs
sum_by-flat h f [] = refl
sum_by-flat h f (x ∷ xs) = omega (arith, sum_by-append h (f x) (flat_map f xs), sum_by-flat h f xs, sum_by-cons (λ y. sum_by h (f y)) x xs)
