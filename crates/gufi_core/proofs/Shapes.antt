-- A sound shape is a forest, and what it owes is what is reached within as many rounds as it has numbers.
use Rattle.std.proofs.Common.{◌≡◌, ◌≢◌, ℕ, zero, suc, ◌+◌, ◌<◌, ◌≤◌, ◌⊎◌, inl, inr, ⊎_elim, Bool, true, false, List, [], ◌∷◌, length, refl, ap, arith, Contains}
use Rattle.std.specs.Prelude.{◌&&◌, ◌==◌, nat_lt, slice_index_or}
use Rattle.std.specs.List.{list_all, flat_map}
use Rattle.std.proofs.lemmas.Bool.Decides.{eqb_tells, nat_tests}
use Rattle.std.proofs.lemmas.List.Sums.{sum_by-append, AllPass-from_list_all}
use Rattle.std.proofs.lemmas.List.Elements.{All-contains}
use Rattle.gufi_core.specs.declared.state.Shape.{Shape}
use Rattle.gufi_core.specs.Steps.{kids_of, named_tasks, count_of, later_kids, is_shape}
use Rattle.gufi_core.proofs.Counts.{one, contains_counted, counted_contains}
use Rattle.gufi_core.specs.Forest.{IsForest}

pub both : (a b : Bool) → (a && b) ≡ true → (a ≡ true) × (b ≡ true)
both true true e = (refl, refl)
both true false e = absurd (let e' : false ≡ true = e in cc)
both false b e = absurd (let e' : false ≡ true = e in cc)

-- one task's kids count no more than all kids
kids_at : (x : ℕ) (table : List (List ℕ)) (t : ℕ) → count_of (slice_index_or table t []) x ≤ count_of (flat_map (λ kids. kids) table) x
kids_at x [] t = omega arith
kids_at x (k ∷ ks) zero = omega (arith, sum_by-append (one x) k (flat_map (λ kids. kids) ks))
kids_at x (k ∷ ks) (suc t) = omega (arith, sum_by-append (one x) k (flat_map (λ kids. kids) ks), kids_at x ks t)

-- nor do two tasks' kids together
kids_at_two : (x : ℕ) (table : List (List ℕ)) (t u : ℕ) → t ≢ u → count_of (slice_index_or table t []) x + count_of (slice_index_or table u []) x ≤ count_of (flat_map (λ kids. kids) table) x
kids_at_two x [] t u apart = omega arith
kids_at_two x (k ∷ ks) zero zero apart = absurd (apart refl)
kids_at_two x (k ∷ ks) zero (suc u) apart = omega (arith, sum_by-append (one x) k (flat_map (λ kids. kids) ks), kids_at x ks u)
kids_at_two x (k ∷ ks) (suc t) zero apart = omega (arith, sum_by-append (one x) k (flat_map (λ kids. kids) ks), kids_at x ks t)
kids_at_two x (k ∷ ks) (suc t) (suc u) apart = omega (arith, sum_by-append (one x) k (flat_map (λ kids. kids) ks), kids_at_two x ks t u (λ e. apart (ap suc e)))

none_in_nothing : {X : Type 0} (x : ℕ) → Contains [] x → X
none_in_nothing x has = absurd (let lt : has.0 < 0 = has.1 in omega arith)

-- kids are greater than their parent
later : (from : ℕ) (table : List (List ℕ)) (t kid : ℕ) → later_kids from table ≡ true → Contains (slice_index_or table t []) kid → from + t < kid
later from [] t kid sound has = none_in_nothing kid has
later from (k ∷ ks) zero kid sound has =
    let tests = both (list_all (nat_lt from) k) (later_kids (suc from) ks) sound in
    let above : nat_lt from kid ≡ true = All-contains (λ y. nat_lt from y ≡ true) k kid (AllPass-from_list_all (nat_lt from) k tests.0) has in
    let lt : from < kid = grind (arith, nat_tests) in
    omega arith
later from (k ∷ ks) (suc t) kid sound has =
    let tests = both (list_all (nat_lt from) k) (later_kids (suc from) ks) sound in
    let r = later (suc from) ks t kid tests.1 has in
    omega arith

-- what is tested of each number that a shape names
named : (shape : Shape) → is_shape shape ≡ true → (x : ℕ) → Contains (named_tasks shape) x → (x < length shape.kids) × (count_of (named_tasks shape) x ≡ 1)
named shape sound x has =
    let tests = both _ _ sound in
    let here = All-contains (λ y. (nat_lt y (length shape.kids) && count_of (named_tasks shape) y == 1) ≡ true) (named_tasks shape) x
    (AllPass-from_list_all (λ y. nat_lt y (length shape.kids) && count_of (named_tasks shape) y == 1) (named_tasks shape) tests.0) has in
    let parts = both (nat_lt x (length shape.kids)) (count_of (named_tasks shape) x == 1) here in
    let within : nat_lt x (length shape.kids) ≡ true = parts.0 in
    let once : (count_of (named_tasks shape) x == 1) ≡ true = parts.1 in
    (grind (arith, nat_tests), grind (arith, nat_tests))

-- each number is named at most once
at_most_once : (shape : Shape) → is_shape shape ≡ true → (x : ℕ) → count_of shape.first x + count_of (flat_map (λ kids. kids) shape.kids) x ≤ 1
at_most_once shape sound x =
    let all = sum_by-append (one x) shape.first (flat_map (λ kids. kids) shape.kids) in
    or_none (count_of (named_tasks shape) x) refl (λ some. let n = (named shape sound x (contains_counted x (named_tasks shape) some)).1 in omega arith) all
  where
    or_none : (n : ℕ) → n ≡ count_of (named_tasks shape) x → (0 < n → n ≤ 1) → count_of (named_tasks shape) x ≡ count_of shape.first x + count_of (flat_map (λ kids. kids) shape.kids) x → count_of shape.first x + count_of (flat_map (λ kids. kids) shape.kids) x ≤ 1
    or_none zero e le all = omega arith
    or_none (suc n) e le all = let l = le (omega arith) in omega arith

pub within_first : (shape : Shape) → is_shape shape ≡ true → (x : ℕ) → Contains shape.first x → x < length shape.kids
within_first shape sound x has =
    let all = sum_by-append (one x) shape.first (flat_map (λ kids. kids) shape.kids) in
    let here = counted_contains x shape.first has in
    (named shape sound x (contains_counted x (named_tasks shape) (omega arith))).0

pub within_kids : (shape : Shape) → is_shape shape ≡ true → (task x : ℕ) → Contains (kids_of shape task) x → x < length shape.kids
within_kids shape sound task x has =
    let all = sum_by-append (one x) shape.first (flat_map (λ kids. kids) shape.kids) in
    let here = counted_contains x (kids_of shape task) has in
    let le = kids_at x shape.kids task in
    (named shape sound x (contains_counted x (named_tasks shape) (omega arith))).0

pub greater_kids : (shape : Shape) → is_shape shape ≡ true → (task kid : ℕ) → Contains (kids_of shape task) kid → task < kid
greater_kids shape sound task kid has =
    let tests = both _ (later_kids 0 shape.kids) sound in
    let r : 0 + task < kid = later 0 shape.kids task kid tests.1 has in
    omega arith

same_or_not : (t u : ℕ) → (t ≡ u) ⊎ (t ≢ u)
same_or_not t u = ⊎_elim (λ yes. inl yes.1) (λ no. inr no.1) (eqb_tells t u)

pub shape_is_forest : (shape : Shape) → is_shape shape ≡ true → IsForest shape.first (kids_of shape)
shape_is_forest shape sound = record {
  greater = greater_kids shape sound;
  first_once = λ x. let o = at_most_once shape sound x in omega arith;
  kids_once = λ task x. let o = at_most_once shape sound x in let a = kids_at x shape.kids task in omega arith;
  apart = λ task x has first_has. let o = at_most_once shape sound x in let a = kids_at x shape.kids task in let p = counted_contains x (kids_of shape task) has in let q = counted_contains x shape.first first_has in omega arith;
  one_parent = λ task other x has has'. ⊎_elim (λ (e : task ≡ other). e)
      (λ (apart : task ≢ other). absurd (let o = at_most_once shape sound x in let a = kids_at_two x shape.kids task other apart in let p = counted_contains x (kids_of shape task) has in let q = counted_contains x (kids_of shape other) has' in omega arith)) (same_or_not task other);
}
