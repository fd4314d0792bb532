-- The distinct numbers of a list, ascending, as one number more comes behind the others.
use Rattle.std.proofs.Common.{◌≡◌, ℕ, ◌+◌, ◌≤◌, Bool, true, false, not, cond, List, [], ◌∷◌, ◌++◌, eqb, refl, sym, ap, ◌∙◌, subst, inl, inr, arith}
use Rattle.std.specs.Prelude.{◌||◌}
use Rattle.std.specs.declared.cmp.Ordering.TheVariants.{Less}
use Rattle.std.specs.Ordering.{nat_cmp, is_eq}
use Rattle.std.specs.List.{list_any, filter, AllByRecursion}
use Rattle.std.specs.List.Sorted.{IsPermutation}
use Rattle.std.proofs.lemmas.Bool.{cases_Bool, eqb-true, eq-eqb, false≢true}
use Rattle.std.proofs.lemmas.Bool.Decides.{nat_tests}
use Rattle.std.proofs.lemmas.Cmp.{nat_cmp_total}
use Rattle.std.proofs.lemmas.List.Sorted.{IsPermutation-refl, IsPermutation-trans, IsPermutation-cons, list_any-IsPermutation}
use Rattle.gufi_base.specs.Basics.{insert_by, sort_by, ascends, distinct, without}
use Rattle.gufi_base.proofs.Permutations.{IsPermutation-respected, front_turned, IsPermutation-filter}
use Rattle.gufi_base.proofs.Sorting.{IsPermutation-sort_by}
use Rattle.gufi_base.proofs.SortedOnce.{times, Once, less_turned, below_all, ascends-sort_by, ascends-filter, sort_by-IsPermutation, sort_by-to}

-- the two tests of numbers
pub nat_cmp-eqb : (a b : ℕ) → is_eq (nat_cmp a b) ≡ eqb a b
nat_cmp-eqb a b = grind (arith, nat_tests)

pub eqb-sym : (a b : ℕ) → eqb a b ≡ eqb b a
eqb-sym a b =
    elim (cases_Bool (eqb a b)) [
      | inl same ↦ same ∙ sym (eq-eqb b a (sym (eqb-true a b same)))
      | inr other ↦ elim (cases_Bool (eqb b a)) [
        | inl same ↦ absurd (false≢true (sym other ∙ eq-eqb a b (sym (eqb-true b a same))))
        | inr off ↦ other ∙ sym off
      ]
    ]

times-filter : (p q : ℕ → Bool) (ns : List ℕ) → times p (filter q ns) ≤ times p ns
times-filter p q [] = omega arith
times-filter p q (n ∷ ns) = by (q n) (times-filter p q ns) where
  by : (b : Bool) → times p (filter q ns) ≤ times p ns → times p (cond b (n ∷ filter q ns) (filter q ns)) ≤ cond (p n) 1 0 + times p ns
  by true h = omega (arith, h)
  by false h = omega (arith, h)

times-without : (n : ℕ) (ns : List ℕ) → times (λ m. is_eq (nat_cmp n m)) (without n ns) ≡ 0
times-without n [] = refl
times-without n (m ∷ ns) =
    elim (cases_Bool (eqb m n)) [
      | inl here ↦ rw here (times-without n ns)
      | inr off ↦ let rest = times-without n ns in rw (off, nat_cmp-eqb n m, eqb-sym n m, off) (omega (arith, rest))
    ]

once-step : (n z : ℕ) (ns : List ℕ) → times (λ m. is_eq (nat_cmp z m)) ns ≤ 1 → times (λ m. is_eq (nat_cmp z m)) (n ∷ without n ns) ≤ 1
once-step n z ns once =
    elim (cases_Bool (eqb z n)) [
      | inl same ↦
          let is : z ≡ n = eqb-true z n same in
          let none : times (λ m. is_eq (nat_cmp z m)) (without n ns) ≡ 0 = rw is (times-without n ns) in
          rw (nat_cmp-eqb z n, same, none) (omega arith)
      | inr other ↦
          let rest = times-filter (λ m. is_eq (nat_cmp z m)) (λ m. not (eqb m n)) ns in
          rw (nat_cmp-eqb z n, other) (omega (arith, rest, once))
    ]

pub Once-distinct : (ns : List ℕ) → Once nat_cmp (distinct ns)
Once-distinct [] = λ z. omega arith
Once-distinct (n ∷ ns) = λ z. once-step n z (distinct ns) (Once-distinct ns z)

filters-swap : (p q : ℕ → Bool) (ns : List ℕ) → filter p (filter q ns) ≡ filter q (filter p ns)
filters-swap p q [] = refl
filters-swap p q (n ∷ ns) =
    let rest = filters-swap p q ns in
    elim (cases_Bool (p n)) [
      | inl there ↦ elim (cases_Bool (q n)) [
        | inl also ↦ rw (there, also, there) (ap (λ (l : List ℕ). n ∷ l) rest)
        | inr off ↦ rw (there, off) rest
      ]
      | inr gone ↦ elim (cases_Bool (q n)) [
        | inl also ↦ rw (gone, also, gone) rest
        | inr off ↦ rw (gone, off) rest
      ]
    ]

behind-same : (n k : ℕ) (d : List ℕ) → n ≡ k → IsPermutation (n ∷ without n (k ∷ without k d)) (k ∷ without k (n ∷ without n d))
behind-same n k d is = subst (λ m. IsPermutation (n ∷ without n (m ∷ without m d)) (m ∷ without m (n ∷ without n d))) is (IsPermutation-refl _)

-- two numbers in front change places
pub front-swapped : (n k : ℕ) (d : List ℕ) → IsPermutation (n ∷ without n (k ∷ without k d)) (k ∷ without k (n ∷ without n d))
front-swapped n k d =
    let swapped : without n (without k d) ≡ without k (without n d) = filters-swap (λ m. not (eqb m n)) (λ m. not (eqb m k)) d in
    elim (cases_Bool (eqb k n)) [
      | inl same ↦ behind-same n k d (sym (eqb-true k n same))
      | inr other ↦ rw (other, eqb-sym n k, other, swapped) (front_turned n k _)
    ]

-- a number more behind the others is as good as before them
pub distinct-behind : (ns : List ℕ) (k : ℕ) → IsPermutation (distinct (ns ++ k ∷ [])) (k ∷ without k (distinct ns))
distinct-behind [] k = IsPermutation-refl _
distinct-behind (n ∷ ns) k =
    IsPermutation-trans _ _ _ (IsPermutation-cons n _ _ (IsPermutation-filter (λ m. not (eqb m n)) _ _ (distinct-behind ns k))) (front-swapped n k (distinct ns))

-- the order of the numbers does not matter
pub distinct-reordered : (ns ms : List ℕ) → IsPermutation ns ms → IsPermutation (distinct ns) (distinct ms)
distinct-reordered =
    IsPermutation-respected IsPermutation IsPermutation-refl IsPermutation-trans distinct
    (λ n us vs e. IsPermutation-cons n _ _ (IsPermutation-filter (λ m. not (eqb m n)) _ _ e)) (λ n k us. front-swapped n k (distinct us))

pub sorted-reordered : (ns ms : List ℕ) → IsPermutation ns ms → sort_by nat_cmp (distinct ns) ≡ sort_by nat_cmp (distinct ms)
sorted-reordered ns ms h = sort_by-IsPermutation nat_cmp nat_cmp_total _ _ (distinct-reordered ns ms h) (Once-distinct ns)

pub sorted-behind : (ns : List ℕ) (k : ℕ) → sort_by nat_cmp (distinct (ns ++ k ∷ [])) ≡ insert_by nat_cmp k (without k (sort_by nat_cmp (distinct ns)))
sorted-behind ns k =
    let d = distinct ns in
    let keep : ℕ → Bool = λ m. not (eqb m k) in
    let up : ascends nat_cmp (sort_by nat_cmp d) ≡ true = ascends-sort_by nat_cmp nat_cmp_total d (Once-distinct ns) in
    sort_by-IsPermutation nat_cmp nat_cmp_total _ _ (distinct-behind ns k) (Once-distinct (ns ++ k ∷ []))
    ∙ ap (insert_by nat_cmp k)
    (sort_by-to nat_cmp nat_cmp_total (without k d) (without k (sort_by nat_cmp d)) (IsPermutation-filter keep d (sort_by nat_cmp d) (IsPermutation-sort_by nat_cmp d))
    (ascends-filter nat_cmp nat_cmp_total keep (sort_by nat_cmp d) up))

-- which numbers stand in a list doesn't change by sorting them without repeats
any-without : (n x : ℕ) (ns : List ℕ) → eqb x n ≡ false → list_any (eqb x) (without n ns) ≡ list_any (eqb x) ns
any-without n x [] other = refl
any-without n x (m ∷ ns) other =
    elim (cases_Bool (eqb m n)) [
      | inl here ↦
          let off : eqb x m ≡ false = ap (λ k. eqb x k) (eqb-true m n here) ∙ other in
          rw (here, off) (any-without n x ns other)
      | inr off ↦ rw off (ap (λ b. eqb x m || b) (any-without n x ns other))
    ]

any-distinct : (x : ℕ) (ns : List ℕ) → list_any (eqb x) (distinct ns) ≡ list_any (eqb x) ns
any-distinct x [] = refl
any-distinct x (n ∷ ns) =
    elim (cases_Bool (eqb x n)) [
      | inl same ↦ rw same refl
      | inr other ↦ rw other (any-without n x (distinct ns) other ∙ any-distinct x ns)
    ]

pub any-sorted : (x : ℕ) (ns : List ℕ) → list_any (eqb x) (sort_by nat_cmp (distinct ns)) ≡ list_any (eqb x) ns
any-sorted x ns = sym (list_any-IsPermutation (eqb x) (distinct ns) (sort_by nat_cmp (distinct ns)) (IsPermutation-sort_by nat_cmp (distinct ns))) ∙ any-distinct x ns

-- a number below all others of a list
abbrev pub AreAbove : ℕ → List ℕ → Type 0
AreAbove k ns = AllByRecursion (λ n. nat_cmp k n ≡ Less) ns

pub above-further : (k m : ℕ) (ns : List ℕ) → nat_cmp k m ≡ Less → AreAbove m ns → AreAbove k ns
above-further k m [] below rest = tt
above-further k m (n ∷ ns) below rest = (nat_cmp_total.trans k m n below rest.0, above-further k m ns below rest.1)

pub above-apart : (k n : ℕ) → nat_cmp k n ≡ Less → eqb n k ≡ false
above-apart k n below = eqb-sym n k ∙ sym (nat_cmp-eqb k n) ∙ ap is_eq below

pub without-above : (k : ℕ) (ns : List ℕ) → AreAbove k ns → without k ns ≡ ns
without-above k [] above = refl
without-above k (n ∷ ns) above = rw (above-apart k n above.0) (ap (λ (l : List ℕ). n ∷ l) (without-above k ns above.1))

pub insert-below : (k : ℕ) (ns : List ℕ) → AreAbove k ns → insert_by nat_cmp k ns ≡ k ∷ ns
insert-below k [] above = refl
insert-below k (n ∷ ns) above = rw (less_turned nat_cmp nat_cmp_total k n above.0) refl

pub rest-above : (n : ℕ) (ns : List ℕ) → ascends nat_cmp (n ∷ ns) ≡ true → AreAbove n ns
rest-above n ns up = below_all nat_cmp nat_cmp_total n ns up

pub above-both : (k m : ℕ) (ns : List ℕ) → nat_cmp k m ≡ Less → AreAbove m ns → AreAbove k (m ∷ ns)
above-both k m ns below rest = (below, above-further k m ns below rest)
