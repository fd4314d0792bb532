-- The job of the tests is a shape.
use Rattle.std.proofs.Common.{◌≡◌, ◌≢◌, ℕ, zero, suc, ◌+◌, ◌*◌, ◌<◌, ◌≤◌, ◌⊎◌, inl, inr, ⊎_elim, Bool, true, false, cond, eqb, List, [], ◌∷◌, arith, refl, All, Contains}
use Rattle.std.specs.Prelude.{nat_lt}
use Rattle.std.proofs.lemmas.Bool.Decides.{eqb_tells, nat_tests}
use Rattle.std.proofs.lemmas.List.Sums.{sum_by-cons}
use Rattle.std.proofs.lemmas.List.Elements.{All-nil, All-cons}
use Rattle.std.proofs.lemmas.List.FromFn.{length-range_with_len, get_or-range_with_len}
use Rattle.gufi_core.specs.Steps.{count_of}
use Rattle.gufi_core.proofs.Counts.{one, one_yes, one_no}
use Rattle.gufi_pool.specs.Forest.{IsShape}
use Rattle.gufi_thread_tests.specs.Heaps.{heap_kids, heap_first, heap_given}

below : (size x : ℕ) → x ≤ size → Contains (heap_given size) x
below size x le =
    let long = length-range_with_len 0 (size + 1) in
    let is = get_or-range_with_len 0 (size + 1) x x (omega arith) in
    (x, omega arith, omega arith)

pair_has : (a b x : ℕ) → Contains (a ∷ b ∷ []) x → (a ≡ x) ⊎ (b ≡ x)
pair_has a b x (zero, lt, is) = inl is
pair_has a b x (suc zero, lt, is) = inr is
pair_has a b x (suc (suc k), lt, is) = absurd (omega arith)

pair_once : (a b x : ℕ) → a ≢ b → count_of (a ∷ b ∷ []) x ≤ 1
pair_once a b x apart =
    ⊎_elim
    (λ (here : (eqb a x ≡ true) × (a ≡ x)). ⊎_elim
    (λ (there : (eqb b x ≡ true) × (b ≡ x)). absurd (let e = here.1 in let f = there.1 in apart (omega arith)))
    (λ (no : (eqb b x ≡ false) × (b ≢ x)). let z = one_yes x a here.0 in let n = one_no x b no.0 in omega (arith, sum_by-cons (one x) a (b ∷ []), sum_by-cons (one x) b []))
    (eqb_tells b x))
    (λ (no : (eqb a x ≡ false) × (a ≢ x)). let n = one_no x a no.0 in let le = at_most b in omega (arith, sum_by-cons (one x) a (b ∷ []), sum_by-cons (one x) b []))
    (eqb_tells a x)
  where
    at_most : (y : ℕ) → one x y ≤ 1
    at_most y = ⊎_elim (λ (yes : (eqb y x ≡ true) × (y ≡ x)). let e = one_yes x y yes.0 in omega arith) (λ (no : (eqb y x ≡ false) × (y ≢ x)). let e = one_no x y no.0 in omega arith) (eqb_tells y x)

module _ (l : List ℕ) where
  kept_has : (b : Bool) (x : ℕ) → Contains (cond b l []) x → (b ≡ true) × Contains l x
  kept_has true x has = (refl, has)
  kept_has false x has = absurd (let lt : has.0 < 0 = has.1 in omega arith)

  kept_once : (b : Bool) (x : ℕ) → count_of l x ≤ 1 → count_of (cond b l []) x ≤ 1
  kept_once true x once = once
  kept_once false x once = omega arith

  kept_all : (P : ℕ → Type 0) (b : Bool) → (b ≡ true → All P l) → All P (cond b l [])
  kept_all P true all = all refl
  kept_all P false all = All-nil P

in_heap : (size task : ℕ) → nat_lt (2 * task + 2) size ≡ true → 2 * task + 2 < size
in_heap size task test = grind (arith, nat_tests)

kid_at : (size task x : ℕ) → Contains (heap_kids size task) x → (2 * task + 2 < size) × (2 * task + 1 ≤ x) × (x ≤ 2 * task + 2)
kid_at size task x has =
    let kept = kept_has ((2 * task + 1) ∷ (2 * task + 2) ∷ []) (nat_lt (2 * task + 2) size) x has in
    let at = pair_has (2 * task + 1) (2 * task + 2) x kept.1 in
    (in_heap size task kept.0, ⊎_elim (λ (e : 2 * task + 1 ≡ x). omega arith) (λ (e : 2 * task + 2 ≡ x). omega arith) at, ⊎_elim (λ (e : 2 * task + 1 ≡ x). omega arith) (λ (e : 2 * task + 2 ≡ x). omega arith) at)

pub heap_shape : (size : ℕ) → 0 < size → IsShape (heap_given size) (heap_first size) (heap_kids size)
heap_shape size some = record {
  first_given = All-cons (Contains (heap_given size)) 0 (size ∷ []) (below size 0 (omega arith)) (All-cons (Contains (heap_given size)) size [] (below size size (omega arith)) (All-nil (Contains (heap_given size))));
  kids_given = λ task _.
      kept_all ((2 * task + 1) ∷ (2 * task + 2) ∷ []) (Contains (heap_given size)) (nat_lt (2 * task + 2) size) (λ test.
      let lt = in_heap size task test in
      All-cons (Contains (heap_given size)) (2 * task + 1) ((2 * task + 2) ∷ []) (below size (2 * task + 1) (omega arith))
      (All-cons (Contains (heap_given size)) (2 * task + 2) [] (below size (2 * task + 2) (omega arith)) (All-nil (Contains (heap_given size)))));
  greater = λ task kid _ has. let at = kid_at size task kid has in let low = at.1 in omega arith;
  first_once = λ x. pair_once 0 size x (λ e. omega arith);
  kids_once = λ task x _. kept_once ((2 * task + 1) ∷ (2 * task + 2) ∷ []) (nat_lt (2 * task + 2) size) x (pair_once (2 * task + 1) (2 * task + 2) x (λ e. omega arith));
  apart = λ task x _ has first.
      let at = kid_at size task x has in
      let within = at.0 in
      let low = at.1 in
      let high = at.2 in
      ⊎_elim (λ (e : 0 ≡ x). omega arith) (λ (e : size ≡ x). omega arith) (pair_has 0 size x first);
  one_parent = λ task other x _ _ has has'.
      let at = kid_at size task x has in
      let also = kid_at size other x has' in
      let low = at.1 in
      let high = at.2 in
      let low' = also.1 in
      let high' = also.2 in
      omega arith;
}
