-- A balanced list of tasks holds each owed task once.
use Rattle.std.proofs.Common.{◌≡◌, ℕ, zero, suc, ◌+◌, ◌<◌, ◌≤◌, ⊎_elim, List, sum_by, refl, arith, Contains}
use Rattle.gufi_core.specs.Steps.{count_of}
use Rattle.gufi_core.specs.Forest.{Owed, IsForest}
use Rattle.gufi_core.specs.Forest.Owed.{begins, follows}
use Rattle.gufi_core.proofs.Counts.{contains_counted, counted_contains, term_le, SomeTerm, some_term, one_term}

module _ (first : List ℕ) (kids : ℕ → List ℕ) (tasks : List ℕ) (forest : IsForest first kids) (balanced : (x : ℕ) → count_of first x + sum_by (λ task. count_of (kids task) x) tasks ≡ count_of tasks x) where
  abbrev among : ℕ → ℕ → ℕ
  among x = λ task. count_of (kids task) x

  none_there : (x : ℕ) (xs : List ℕ) → ¬ Contains xs x → count_of xs x ≡ 0
  none_there x xs none = zero_unless (count_of xs x) (λ some. none (contains_counted x xs some))
    where
      zero_unless : (n : ℕ) → ¬ (0 < n) → n ≡ 0
      zero_unless zero none = refl
      zero_unless (suc n) none = absurd (none (omega arith))

  pub is_owed : (n x : ℕ) → x < n → 0 < count_of tasks x → Owed first kids x
  is_owed zero x lt some = absurd (omega arith)
  is_owed (suc n) x lt some =
      let c = balanced x in
      ⊎_elim (λ (none : sum_by (among x) tasks ≡ 0). begins x (contains_counted x first (omega arith)))
      (λ (s : SomeTerm (among x) tasks).
      let kid = contains_counted x (kids s.0) s.2 in
      let less = forest.greater s.0 x kid in
      follows s.0 x (is_owed n s.0 (omega arith) (counted_contains s.0 tasks s.1)) kid)
      (some_term (among x) tasks)

  is_there : (x : ℕ) → Owed first kids x → 0 < count_of tasks x
  is_there x (begins task has) = let c = balanced task in let t = counted_contains task first has in omega arith
  is_there x (follows task kid owed has) =
      let there = contains_counted task tasks (is_there task owed) in
      let c = balanced kid in
      let t = counted_contains kid (kids task) has in
      let le = term_le (among kid) tasks task there in
      omega arith

  not_twice : (n x : ℕ) → x < n → count_of tasks x ≤ 1
  not_twice zero x lt = absurd (omega arith)
  not_twice (suc n) x lt =
      let c = balanced x in
      ⊎_elim (λ (none : sum_by (among x) tasks ≡ 0). let f = forest.first_once x in omega arith)
      (λ (s : SomeTerm (among x) tasks).
      let kid = contains_counted x (kids s.0) s.2 in
      let less = forest.greater s.0 x kid in
      let no_first : count_of first x ≡ 0 = none_there x first (forest.apart s.0 x kid) in
      let parent = not_twice n s.0 (omega arith) in
      let sum = one_term (among x) s.0 tasks (λ y has some. forest.one_parent y s.0 x (contains_counted x (kids y) some) kid) (forest.kids_once s.0 x) in
      omega arith)
      (some_term (among x) tasks)

  -- each owed task is there once, and no other
  pub owed_once : (x : ℕ) → Owed first kids x → count_of tasks x ≡ 1
  owed_once x owed = let a = is_there x owed in let b = not_twice (suc x) x (omega arith) in omega arith

  pub others_absent : (x : ℕ) → ¬ Owed first kids x → count_of tasks x ≡ 0
  others_absent x not_owed = none_there x tasks (λ has. not_owed (is_owed (suc x) x (omega arith) (counted_contains x tasks has)))
