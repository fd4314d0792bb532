-- What a shape owes is what is reached from its first tasks.
use Rattle.std.proofs.Common.{◌≡◌, ℕ, zero, suc, ◌<◌, ◌≤◌, ⊎_elim, true, List, ◌++◌, length, sum_by, refl, arith, Contains}
use Rattle.std.specs.List.{flat_map}
use Rattle.std.proofs.lemmas.List.Sums.{sum_by-append}
use Rattle.gufi_core.specs.declared.state.Shape.{Shape}
use Rattle.gufi_core.specs.Steps.{kids_of, count_of, reached, owed, is_shape}
use Rattle.gufi_core.proofs.Counts.{one, contains_counted, counted_contains, term_le, SomeTerm, some_term, sum_flat}
use Rattle.gufi_core.specs.Forest.{Owed}
use Rattle.gufi_core.specs.Forest.Owed.{begins, follows}
use Rattle.gufi_core.proofs.Shapes.{within_first, within_kids, greater_kids}

contains_either : (x : ℕ) (xs ys : List ℕ) {C : Type 0} → (Contains xs x → C) → (Contains ys x → C) → Contains (xs ++ ys) x → C
contains_either x xs ys left right has =
    let some = counted_contains x (xs ++ ys) has in
    let all = sum_by-append (one x) xs ys in
    by_count (count_of xs x) refl (λ more. left (contains_counted x xs more)) (λ none. right (contains_counted x ys (omega arith)))
  where
    by_count : {C : Type 0} (n : ℕ) → n ≡ count_of xs x → (0 < count_of xs x → C) → (count_of xs x ≡ 0 → C) → C
    by_count zero e more none = none (omega arith)
    by_count (suc n) e more none = more (omega arith)

pub contains_left : (x : ℕ) (xs ys : List ℕ) → Contains xs x → Contains (xs ++ ys) x
contains_left x xs ys has = let some = counted_contains x xs has in contains_counted x (xs ++ ys) (omega (arith, sum_by-append (one x) xs ys))

pub contains_right : (x : ℕ) (xs ys : List ℕ) → Contains ys x → Contains (xs ++ ys) x
contains_right x xs ys has = let some = counted_contains x ys has in contains_counted x (xs ++ ys) (omega (arith, sum_by-append (one x) xs ys))

-- a kid of one of the tasks
kid_of_some : (shape : Shape) (tasks : List ℕ) (x : ℕ) → Contains (flat_map (kids_of shape) tasks) x → (task : ℕ) × Contains tasks task × Contains (kids_of shape task) x
kid_of_some shape tasks x has =
    let some = counted_contains x (flat_map (kids_of shape) tasks) has in
    let flat = sum_flat (one x) (kids_of shape) tasks in
    ⊎_elim (λ (none : sum_by (λ task. sum_by (one x) (kids_of shape task)) tasks ≡ 0). absurd (omega arith))
    (λ (s : SomeTerm (λ task. sum_by (one x) (kids_of shape task)) tasks). (s.0, s.1, contains_counted x (kids_of shape s.0) s.2))
    (some_term (λ task. sum_by (one x) (kids_of shape task)) tasks)

some_kid : (shape : Shape) (tasks : List ℕ) (task x : ℕ) → Contains tasks task → Contains (kids_of shape task) x → Contains (flat_map (kids_of shape) tasks) x
some_kid shape tasks task x has kid =
    let some = counted_contains x (kids_of shape task) kid in
    let flat = sum_flat (one x) (kids_of shape) tasks in
    let le = term_le (λ t. sum_by (one x) (kids_of shape t)) tasks task has in
    contains_counted x (flat_map (kids_of shape) tasks) (omega arith)

reached_owed : (shape : Shape) (fuel : ℕ) (tasks : List ℕ) → ((x : ℕ) → Contains tasks x → Owed shape.first (kids_of shape) x) → (x : ℕ) → Contains (reached fuel shape tasks) x → Owed shape.first (kids_of shape) x
reached_owed shape zero tasks all x has = absurd (let lt : has.0 < 0 = has.1 in omega arith)
reached_owed shape (suc fuel) tasks all x has =
    contains_either x tasks (reached fuel shape (flat_map (kids_of shape) tasks)) (all x)
    (reached_owed shape fuel (flat_map (kids_of shape) tasks) (λ y kid. let of = kid_of_some shape tasks y kid in follows of.0 y (all of.0 of.1) of.2) x) has

pub owed_is_owed : (shape : Shape) (x : ℕ) → Contains (owed shape) x → Owed shape.first (kids_of shape) x
owed_is_owed shape x has = reached_owed shape (length shape.kids) shape.first begins x has

-- the tasks of one round
abbrev round : Shape → List ℕ → ℕ → List ℕ
round shape tasks zero = tasks
round shape tasks (suc n) = round shape (flat_map (kids_of shape) tasks) n

next_round : (shape : Shape) (n : ℕ) (tasks : List ℕ) (task kid : ℕ) → Contains (round shape tasks n) task → Contains (kids_of shape task) kid → Contains (round shape tasks (suc n)) kid
next_round shape zero tasks task kid has of = some_kid shape tasks task kid has of
next_round shape (suc n) tasks task kid has of = next_round shape n (flat_map (kids_of shape) tasks) task kid has of

round_reached : (shape : Shape) (fuel n : ℕ) (tasks : List ℕ) (x : ℕ) → n < fuel → Contains (round shape tasks n) x → Contains (reached fuel shape tasks) x
round_reached shape zero n tasks x lt has = absurd (omega arith)
round_reached shape (suc fuel) zero tasks x lt has = contains_left x tasks (reached fuel shape (flat_map (kids_of shape) tasks)) has
round_reached shape (suc fuel) (suc n) tasks x lt has =
    contains_right x tasks (reached fuel shape (flat_map (kids_of shape) tasks)) (round_reached shape fuel n (flat_map (kids_of shape) tasks) x (omega arith) has)

record IsInRound (shape : Shape) (x : ℕ) : Type 0 where
  pub number : ℕ
  pub has : Contains (round shape shape.first number) x
  pub early : number ≤ x
  pub within : x < length shape.kids

-- Each owed task comes in some round, which is no later than its own number.
in_round : (shape : Shape) → is_shape shape ≡ true → (x : ℕ) → Owed shape.first (kids_of shape) x → IsInRound shape x
in_round shape sound x (begins task has) = record { number = 0; has = has; early = omega arith; within = within_first shape sound task has }
in_round shape sound x (follows task kid owed has) =
    let before = in_round shape sound task owed in
    let early = before.early in
    let less = greater_kids shape sound task kid has in
    record { number = suc before.number; has = next_round shape before.number shape.first task kid before.has has; early = omega arith; within = within_kids shape sound task kid has }

pub is_owed_owed : (shape : Shape) → is_shape shape ≡ true → (x : ℕ) → Owed shape.first (kids_of shape) x → Contains (owed shape) x
is_owed_owed shape sound x is =
    let in' = in_round shape sound x is in
    let early = in'.early in
    let within = in'.within in
    round_reached shape (length shape.kids) in'.number shape.first x (omega arith) in'.has
