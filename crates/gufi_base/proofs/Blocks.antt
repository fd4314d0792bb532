-- Blocks of bytes compared at once.
use Rattle.std.proofs.Common.{◌≡◌, ℕ, suc, ◌+◌, ◌-◌, ◌%◌, ◌^◌, ◌<◌, ◌≤◌, Bool, true, false, not, cond, eqb, List, [], ◌∷◌, ◌++◌, length, take, drop, get_or, map, refl, sym, ap, ◌∙◌, subst, arith, ⊎_elim}
use Rattle.std.specs.Prelude.{bytes_eq}
use Rattle.std.specs.List.{prefix_len}
use Rattle.std.proofs.lemmas.List.{take_all, take-take, length-map}
use Rattle.std.proofs.lemmas.List.Sums.{prefix_len-le-length}
use Rattle.std.proofs.lemmas.Slice.Eq.{bytes_eq-Decides}
use Rattle.std.proofs.lemmas.Bool.{cases_Bool, cases_lt, cond-true, cond-false, ne_eqb, eq-eqb, eqb-true, eqb-false}
use Rattle.std.proofs.lemmas.Simd.{tops_compared, mask_l-mod, length-zip2, length-chunk, get_or-chunk, first_set_mask_l}
use Rattle.std.proofs.Math.Seq.{take-add}
use lib.Count.{count_trailing_zeros}
use lib.Lanes.{chunk, zip2, mask_l, top}
use mir.Syntax.{w8}
use mir.Val.{bits, hbits}

abbrev unlike : ℕ → ℕ → Bool
unlike a b = not (eqb a b)

abbrev pairs : List ℕ → List ℕ → List (ℕ × ℕ)
pairs = zip2 (λ a b. (a, b))

abbrev differs : ℕ × ℕ → Bool
differs v = unlike v.0 v.1

tested : (xs ys : List ℕ) → zip2 unlike xs ys ≡ map differs (pairs xs ys)
tested [] ys = refl
tested (x ∷ xs) [] = refl
tested (x ∷ xs) (y ∷ ys) = ap (λ (ts : List Bool). unlike x y ∷ ts) (tested xs ys)

-- how many bytes two blocks have alike before the first that differs
abbrev alike : List ℕ → List ℕ → ℕ
alike xs ys = prefix_len (λ v. not (differs v)) (pairs xs ys)

one_more : (x y : ℕ) (xs ys : List ℕ) → eqb x y ≡ true → alike (x ∷ xs) (y ∷ ys) ≡ suc (alike xs ys)
one_more x y xs ys t =
    let next : 1 + alike xs ys ≡ suc (alike xs ys) = omega arith in
    ap (λ b. cond (not (not b)) (1 + alike xs ys) 0) t ∙ next

no_more : (x y : ℕ) (xs ys : List ℕ) → eqb x y ≡ false → alike (x ∷ xs) (y ∷ ys) ≡ 0
no_more x y xs ys f = ap (λ b. cond (not (not b)) (1 + alike xs ys) 0) f

alike_front : (xs ys : List ℕ) → take (alike xs ys) xs ≡ take (alike xs ys) ys
alike_front [] [] = refl
alike_front [] (y ∷ ys) = refl
alike_front (x ∷ xs) [] = refl
alike_front (x ∷ xs) (y ∷ ys) =
    ⊎_elim (λ (t : eqb x y ≡ true).
    let more = one_more x y xs ys t in
    ap (λ k. take k (x ∷ xs)) more ∙ ap (λ (z : ℕ). z ∷ take (alike xs ys) xs) (eqb-true x y t)
    ∙ ap (λ (zs : List ℕ). y ∷ zs) (alike_front xs ys) ∙ sym (ap (λ k. take k (y ∷ ys)) more))
    (λ (f : eqb x y ≡ false).
    let none = no_more x y xs ys f in
    ap (λ k. take k (x ∷ xs)) none ∙ sym (ap (λ k. take k (y ∷ ys)) none))
    (cases_Bool (eqb x y))

alike_stops : (xs ys : List ℕ) → length xs ≡ length ys → alike xs ys < length xs → get_or xs (alike xs ys) 0 ≡ get_or ys (alike xs ys) 0 → ⊥
alike_stops [] ys long lt e = omega arith
alike_stops (x ∷ xs) [] long lt e = omega arith
alike_stops (x ∷ xs) (y ∷ ys) long lt e =
    ⊎_elim (λ (t : eqb x y ≡ true).
    let more = one_more x y xs ys t in
    let at = sym (ap (λ k. get_or (x ∷ xs) k 0) more) ∙ e ∙ ap (λ k. get_or (y ∷ ys) k 0) more in
    alike_stops xs ys (omega arith) (omega (arith, more, lt)) at)
    (λ (f : eqb x y ≡ false).
    let none = no_more x y xs ys f in
    let at : x ≡ y = sym (ap (λ k. get_or (x ∷ xs) k 0) none) ∙ e ∙ ap (λ k. get_or (y ∷ ys) k 0) none in
    eqb-false x y f at)
    (cases_Bool (eqb x y))

-- what is known of two texts where so many of n bytes at a place are alike
abbrev pub AlikeAt : List ℕ → List ℕ → ℕ → ℕ → ℕ → Type 0
AlikeAt a b at n r = (r ≤ n) × ((take r (drop at a) ≡ take r (drop at b)) × (r < n → get_or a (at + r) 0 ≡ get_or b (at + r) 0 → ⊥))

module _ (a b : List ℕ) (at n : ℕ) (in_a : at + n ≤ length a) (in_b : at + n ≤ length b) (few : n ≤ 64) where
  abbrev left : List ℕ
  left = chunk at n a

  abbrev right : List ℕ
  right = chunk at n b

  abbrev mask : ℕ
  mask = mask_l (map (top (hbits w8)) (zip2 (λ x y. cond (unlike x y) (2 ^ bits w8 - 1) 0) left right)) % 2 ^ 64

  long_a : length left ≡ n
  long_a = length-chunk at n a in_a

  long_b : length right ≡ n
  long_b = length-chunk at n b in_b

  long : length (pairs left right) ≡ n
  long = length-zip2 (λ x y. (x, y)) left right (long_a ∙ sym long_b) ∙ long_a

  alike_at : (r : ℕ) → r ≡ alike left right → AlikeAt a b at n r
  alike_at r is =
      let le : r ≤ n = omega (arith, is, long, prefix_len-le-length (λ v. not (differs v)) (pairs left right)) in
      let front : take r left ≡ take r right = subst (λ k. take k left ≡ take k right) (sym is) (alike_front left right) in
      let stops : r < n → get_or a (at + r) 0 ≡ get_or b (at + r) 0 → ⊥ =
      λ lt same. alike_stops left right (long_a ∙ sym long_b) (omega (arith, is, long_a, lt))
      (subst (λ k. get_or left k 0 ≡ get_or right k 0) is (get_or-chunk at n a r 0 lt ∙ same ∙ sym (get_or-chunk at n b r 0 lt))) in
      (le, (sym (take-take r n (drop at a) le) ∙ front ∙ take-take r n (drop at b) le, stops))

  counted : cond (eqb mask 0) n (count_trailing_zeros 64 mask) ≡ alike left right
  counted =
      let tops = tops_compared w8 unlike left right ∙ tested left right in
      let short : length (map differs (pairs left right)) ≤ 64 = omega (arith, length-map (pairs left right) differs, long, few) in
      let is : mask ≡ mask_l (map differs (pairs left right)) = ap (λ ms. mask_l ms % 2 ^ 64) tops ∙ mask_l-mod (map differs (pairs left right)) 64 short in
      ap (λ m. cond (eqb m 0) n (count_trailing_zeros 64 m)) is ∙ first_set_mask_l differs (pairs left right) n long few

  pub no_bit : mask ≡ 0 → AlikeAt a b at n n
  no_bit none = alike_at n (sym (cond-true _ _ _ (eq-eqb mask 0 none)) ∙ counted)

  pub first_bit : (mask ≡ 0 → ⊥) → AlikeAt a b at n (count_trailing_zeros 64 mask)
  first_bit some = alike_at _ (sym (cond-false _ _ _ (ne_eqb mask 0 some)) ∙ counted)

-- a front of two texts that are alike up to a place goes on with what is alike there
pub same_more : (a b : List ℕ) (n r : ℕ) → take n a ≡ take n b → take r (drop n a) ≡ take r (drop n b) → take (n + r) a ≡ take (n + r) b
same_more a b n r e f = take-add n r a ∙ ap (λ (t : List ℕ). t ++ take r (drop n a)) e ∙ ap (λ (t : List ℕ). take n b ++ t) f ∙ sym (take-add n r b)

-- texts of one length are the same where their common front is all of them
pub same_whole : (a b : List ℕ) (n : ℕ) → length a ≡ length b → n ≤ length a → take n a ≡ take n b → (n < length a → n < length b → get_or a n 0 ≡ get_or b n 0 → ⊥) → eqb n (length a) ≡ bytes_eq a b
same_whole a b n e le front most =
    ⊎_elim (λ (lt : n < length a).
    let in_b : n < length b = omega arith in
    ne_eqb n (length a) (λ h. omega arith) ∙ sym (not_true (bytes_eq a b) (λ t. most lt in_b (ap (λ (t : List ℕ). get_or t n 0) ((bytes_eq-Decides a b).0 t)))))
    (λ (ge : length a ≤ n).
    let same : a ≡ b = sym (take_all n a ge) ∙ front ∙ take_all n b (omega arith) in
    eq-eqb n (length a) (omega arith) ∙ sym ((bytes_eq-Decides a b).1 same))
    (cases_lt n (length a))
  where
    not_true : (t : Bool) → (t ≡ true → ⊥) → t ≡ false
    not_true true h = absurd (h refl)
    not_true false h = refl
