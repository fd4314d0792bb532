-- Dealt tasks are all of the first ones, by every weight.
use Rattle.std.proofs.Common.{◌≡◌, ◌≢◌, ℕ, zero, suc, ◌+◌, ◌%◌, ◌<◌, ◌≤◌, ⊎_elim, Bool, true, false, cond, eqb, List, [], ◌∷◌, map, sum_by, refl, ap, ◌∙◌, arith}
use Rattle.std.specs.List.{range_with_len, list_all}
use Rattle.std.proofs.lemmas.Bool.Decides.{eqb_tells}
use Rattle.std.proofs.lemmas.List.Sums.{sum_by-cons}
use Rattle.gufi_core.specs.declared.state.Shape.{Shape}
use Rattle.gufi_core.specs.Steps.{dealt_to, fresh_worker, fresh_workers, has_ended_empty}
use Rattle.gufi_core.proofs.Evens.{owes, holds, parts}

-- v at the place k of a range, and 0 at all others
at_one : ℕ → ℕ → ℕ → ℕ
at_one k v j = cond (eqb k j) v 0

at_yes : (k v j : ℕ) → eqb k j ≡ true → at_one k v j ≡ v
unfolding at_one
at_yes k v j e = ap (λ (b : Bool). cond b v 0) e

at_no : (k v j : ℕ) → eqb k j ≡ false → at_one k v j ≡ 0
unfolding at_one
at_no k v j e = ap (λ (b : Bool). cond b v 0) e

none_above : (k v a n : ℕ) → k < a → sum_by (at_one k v) (range_with_len a n) ≡ 0
none_above k v a zero lt = refl
none_above k v a (suc n) lt =
    ⊎_elim (λ (yes : (eqb k a ≡ true) × (k ≡ a)). absurd (let e = yes.1 in omega arith))
    (λ (no : (eqb k a ≡ false) × (k ≢ a)). omega (arith, at_no k v a no.0, none_above k v (a + 1) n (omega arith), sum_by-cons (at_one k v) a (range_with_len (a + 1) n)))
    (eqb_tells k a)

once_in : (k v a n : ℕ) → a ≤ k → k < a + n → sum_by (at_one k v) (range_with_len a n) ≡ v
once_in k v a zero le lt = absurd (omega arith)
once_in k v a (suc n) le lt =
    ⊎_elim (λ (yes : (eqb k a ≡ true) × (k ≡ a)). let e = yes.1 in omega (arith, at_yes k v a yes.0, none_above k v (a + 1) n (omega arith), sum_by-cons (at_one k v) a (range_with_len (a + 1) n)))
    (λ (no : (eqb k a ≡ false) × (k ≢ a)). let e = no.1 in omega (arith, at_no k v a no.0, once_in k v (a + 1) n (omega arith) (omega arith), sum_by-cons (at_one k v) a (range_with_len (a + 1) n)))
    (eqb_tells k a)

sum_both : (f g e : ℕ → ℕ) (xs : List ℕ) → ((x : ℕ) → e x ≡ f x + g x) → sum_by e xs ≡ sum_by f xs + sum_by g xs
sum_both f g e [] same = refl
sum_both f g e (x ∷ xs) same = omega (arith, same x, sum_both f g e xs same, sum_by-cons f x xs, sum_by-cons g x xs, sum_by-cons e x xs)

one_dealt : (h : ℕ → ℕ) (n i task : ℕ) (rest : List ℕ) (j : ℕ) → sum_by h (dealt_to n j i (task ∷ rest)) ≡ at_one (i % n) (h task) j + sum_by h (dealt_to n j (i + 1) rest)
one_dealt h n i task rest j =
    ⊎_elim (λ (yes : (eqb (i % n) j ≡ true) × (i % n ≡ j)).
    let e = ap (λ (b : Bool). sum_by h (cond b (task ∷ dealt_to n j (i + 1) rest) (dealt_to n j (i + 1) rest))) yes.0 in
    omega (arith, e, at_yes (i % n) (h task) j yes.0, sum_by-cons h task (dealt_to n j (i + 1) rest)))
    (λ (no : (eqb (i % n) j ≡ false) × (i % n ≢ j)).
    let e = ap (λ (b : Bool). sum_by h (cond b (task ∷ dealt_to n j (i + 1) rest) (dealt_to n j (i + 1) rest))) no.0 in
    omega (arith, e, at_no (i % n) (h task) j no.0))
    (eqb_tells (i % n) j)

zeros : (n a : ℕ) → sum_by (λ _. 0) (range_with_len a n) ≡ 0
zeros zero a = refl
zeros (suc n) a = omega (arith, sum_by-cons (λ _. 0) a (range_with_len (a + 1) n), zeros n (a + 1))

all_dealt : (h : ℕ → ℕ) (n i : ℕ) (first : List ℕ) → 0 < n → sum_by (λ j. sum_by h (dealt_to n j i first)) (range_with_len 0 n) ≡ sum_by h first
all_dealt h n i [] some = zeros n 0
all_dealt h n i (task ∷ rest) some =
    let k = i % n in
    let lt : k < n = omega arith in
    omega (
      arith,
      sum_both (at_one k (h task)) (λ j. sum_by h (dealt_to n j (i + 1) rest)) (λ j. sum_by h (dealt_to n j i (task ∷ rest))) (range_with_len 0 n) (one_dealt h n i task rest),
      once_in k (h task) 0 n (omega arith) (omega arith),
      all_dealt h n (i + 1) rest some,
      sum_by-cons h task rest,
    )

sum_map : {X : Type 0} (f : X → ℕ) (g : ℕ → X) (e : ℕ → ℕ) (xs : List ℕ) → ((x : ℕ) → f (g x) ≡ e x) → sum_by f (map g xs) ≡ sum_by e xs
sum_map f g e [] same = refl
sum_map f g e (x ∷ xs) same = omega (arith, same x, sum_map f g e xs same, sum_by-cons f (g x) (map g xs), sum_by-cons e x xs)

pub fresh_holds : (h : ℕ → ℕ) (n : ℕ) (first : List ℕ) → 0 < n → sum_by (holds h) (fresh_workers n first) ≡ sum_by h first
fresh_holds h n first some =
    sum_map (holds h) (fresh_worker n first) (λ j. sum_by h (dealt_to n j 0 first)) (range_with_len 0 n) (λ j. omega (arith, parts h [] (dealt_to n j 0 first) [])) ∙ all_dealt h n 0 first some

pub fresh_owes : (shape : Shape) (h : ℕ → ℕ) (n : ℕ) (first : List ℕ) → sum_by (owes shape h) (fresh_workers n first) ≡ 0
fresh_owes shape h n first = sum_map (owes shape h) (fresh_worker n first) (λ _. 0) (range_with_len 0 n) (λ j. refl) ∙ zeros n 0

none_ended : (n : ℕ) (first : List ℕ) (js : List ℕ) → list_all has_ended_empty (map (fresh_worker n first) js) ≡ true
none_ended n first [] = refl
none_ended n first (j ∷ js) = none_ended n first js

pub fresh_running : (n : ℕ) (first : List ℕ) → list_all has_ended_empty (fresh_workers n first) ≡ true
fresh_running n first = none_ended n first (range_with_len 0 n)
