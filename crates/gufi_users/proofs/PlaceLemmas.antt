-- Places of numbers.
use Rattle.std.proofs.Common.{◌≡◌, ℕ, suc, ◌+◌, ◌<◌, false, List, [], ◌∷◌, ◌++◌, length, take, drop, get_or, eqb, refl, sym, ap, ◌∙◌, inl, inr, arith}
use Rattle.std.specs.Prelude.{Option, Some, None, if◌then◌else◌, ◌||◌, nat_eq, find, map, slice_get, MatchOption}
use Rattle.std.specs.List.{list_any}
use Rattle.std.proofs.lemmas.Bool.{cases_Bool, eqb-true}
use Rattle.std.proofs.lemmas.List.{drop_more, take_more}
use Rattle.indexmap.specs.IndexSet.{insert_key}
use Rattle.gufi_base.specs.Basics.{distinct, without}
use Rattle.gufi_users.specs.Places.{first_place}

-- one number more before the others
pub more_places : (number place : ℕ) (numbers : List ℕ) → place < length numbers
    → first_place number place (drop place numbers) ≡ (if nat_eq (get_or numbers place 0) number then Some place else first_place number (place + 1) (drop (place + 1) numbers))
more_places number place numbers inside = rw (drop_more numbers place 0 inside) refl

-- the first row with a number stands where the number first stands
pub number_found : {A : Type 0} (number_of : A → ℕ) (number start : ℕ) (rows : List A)
    → MatchOption (first_place number start (map number_of rows))
    (find (λ row. nat_eq (number_of row) number) rows ≡ None)
    (λ place. (k : ℕ) × (place ≡ start + k) × (find (λ row. nat_eq (number_of row) number) rows ≡ slice_get rows k))
number_found number_of number start [] = refl
number_found number_of number start (row ∷ rows) =
    elim (cases_Bool (nat_eq (number_of row) number)) [
      | inl here ↦ rw here (0, omega arith, refl)
      | inr off ↦ rw off (further (first_place number (start + 1) (map number_of rows)) (number_found number_of number (start + 1) rows))
    ]
  where
    further : (place : Option ℕ) → MatchOption place (find (λ row. nat_eq (number_of row) number) rows ≡ None) (λ p. (k : ℕ) × (p ≡ start + 1 + k) × (find (λ row. nat_eq (number_of row) number) rows ≡ slice_get rows k))
        → MatchOption place (find (λ row. nat_eq (number_of row) number) rows ≡ None) (λ p. (k : ℕ) × (p ≡ start + k) × (find (λ row. nat_eq (number_of row) number) rows ≡ slice_get (row ∷ rows) k))
    further None found = found
    further (Some p) found = (suc found.0, omega (arith, found.1), found.2)

pub found_nowhere : {A : Type 0} (number_of : A → ℕ) (number : ℕ) (rows : List A) → first_place number 0 (map number_of rows) ≡ None → find (λ row. nat_eq (number_of row) number) rows ≡ None
found_nowhere number_of number rows e = rw e at (number_found number_of number 0 rows)

pub found_there : {A : Type 0} (number_of : A → ℕ) (number : ℕ) (rows : List A) (place : ℕ) → first_place number 0 (map number_of rows) ≡ Some place
    → find (λ row. nat_eq (number_of row) number) rows ≡ slice_get rows place
found_there number_of number rows place e =
    let found = rw e at (number_found number_of number 0 rows) in
    let same : found.0 ≡ place = omega (arith, found.1) in
    found.2 ∙ ap (slice_get rows) same

-- ---- numbers without repeats

without_more : (n x : ℕ) (ns : List ℕ) → without n (ns ++ x ∷ []) ≡ (if eqb x n then without n ns else without n ns ++ x ∷ [])
without_more n x [] =
    elim (cases_Bool (eqb x n)) [
      | inl same ↦ rw same refl
      | inr other ↦ rw other refl
    ]
without_more n x (m ∷ ns) =
    let rest = without_more n x ns in
    elim (cases_Bool (eqb m n)) [
      | inl here ↦ rw here rest
      | inr off ↦ elim (cases_Bool (eqb x n)) [
        | inl same ↦ rw (off, same) (ap (λ (l : List ℕ). m ∷ l) (rw same at rest))
        | inr other ↦ rw (off, other) (ap (λ (l : List ℕ). m ∷ l) (rw other at rest))
      ]
    ]

-- whether a number stands in a list doesn't change by taking another out
any_without : (n x : ℕ) (ns : List ℕ) → eqb x n ≡ false → list_any (eqb x) (without n ns) ≡ list_any (eqb x) ns
any_without n x [] other = refl
any_without n x (m ∷ ns) other =
    elim (cases_Bool (eqb m n)) [
      | inl here ↦
          let off : eqb x m ≡ false = ap (λ k. eqb x k) (eqb-true m n here) ∙ other in
          rw (here, off) (any_without n x ns other)
      | inr off ↦ rw off (ap (λ b. eqb x m || b) (any_without n x ns other))
    ]

distinct_step : (n x : ℕ) (d e : List ℕ) → e ≡ (if list_any (eqb x) d then d else d ++ x ∷ []) → n ∷ without n e ≡ insert_key eqb (n ∷ without n d) x
distinct_step n x d e rest =
    elim (cases_Bool (eqb x n)) [
      | inl same ↦ elim (cases_Bool (list_any (eqb x) d)) [
        | inl there ↦ let is : e ≡ d = rw there at rest in rw (same, is) refl
        | inr new ↦ let is : e ≡ d ++ x ∷ [] = rw new at rest in rw (same, is, without_more n x d, same) refl
      ]
      | inr other ↦ elim (cases_Bool (list_any (eqb x) d)) [
        | inl there ↦ let is : e ≡ d = rw there at rest in rw (other, any_without n x d other, there, is) refl
        | inr new ↦ let is : e ≡ d ++ x ∷ [] = rw new at rest in rw (other, any_without n x d other, new, is, without_more n x d, other) refl
      ]
    ]

-- a list's numbers without repeats, with one number more behind the others
pub distinct_more : (ns : List ℕ) (x : ℕ) → distinct (ns ++ x ∷ []) ≡ insert_key eqb (distinct ns) x
distinct_more [] x = refl
distinct_more (n ∷ ns) x = distinct_step n x (distinct ns) (distinct (ns ++ x ∷ [])) (distinct_more ns x)

-- one number more behind the others
pub distinct_taken : (first : ℕ) (others : List ℕ) (i : ℕ) → i < length others → insert_key eqb (distinct (first ∷ take i others)) (get_or others i 0) ≡ distinct (first ∷ take (i + 1) others)
distinct_taken first others i inside =
    sym (distinct_more (first ∷ take i others) (get_or others i 0)) ∙ ap (λ (l : List ℕ). distinct (first ∷ l)) (sym (take_more others i 0 inside))
