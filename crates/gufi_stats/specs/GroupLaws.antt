-- Laws of rows that are grouped by a number: their order does not matter, and each row is counted once.
use Rattle.std.proofs.Common.{◌≡◌, ℕ, ◌+◌, true, false, not, List, [], ◌∷◌, ◌++◌, length, eqb, map, refl, sym, ap, ◌∙◌, subst, inl, inr}
use Rattle.std.specs.Prelude.{◌||◌}
use Rattle.std.specs.Ordering.{nat_cmp}
use Rattle.std.specs.List.{list_any, filter, flat_map, sum_by, AllByRecursion}
use Rattle.std.specs.List.Sorted.{IsPermutation}
use Rattle.std.proofs.lemmas.Bool.{cases_Bool, eqb-true, eq-eqb, false≢true}
use Rattle.std.proofs.Math.Bool.{or-true}
use Rattle.std.proofs.lemmas.Cmp.{nat_cmp_total}
use Rattle.std.proofs.lemmas.Simd.{map-map}
use Rattle.std.proofs.lemmas.List.{map-append, length-map}
use Rattle.std.proofs.lemmas.List.Concat.{length-flat_map}
use Rattle.std.proofs.lemmas.List.Sums.{sum_by-cons}
use Rattle.std.proofs.lemmas.List.Sorted.{IsPermutation-refl, IsPermutation-trans, IsPermutation-map, IsPermutation-append_right, IsPermutation-filter_both, length_permutation}
use Rattle.gufi_base.specs.declared.record.Meta.{Meta}
use Rattle.gufi_base.specs.declared.record.Row.{Row}
use Rattle.gufi_base.specs.Basics.{ascends, distinct}
use Rattle.gufi_base.proofs.Permutations.{IsPermutation-filter}
use Rattle.gufi_base.proofs.SortedOnce.{ascends-tail, ascends-sort_by}
use Rattle.gufi_sums.specs.declared.summary.Summary.{Summary}
use Rattle.gufi_sums.specs.Total.{total, total_of, empty, meta_total, join, rows_in}
use Rattle.gufi_sums.specs.Laws.{total_of-nil, total_of-one, total_of-append, total_of-IsPermutation, total-counts}
use Rattle.gufi_stats.specs.Numbers.{Once-distinct, any-sorted, sorted-reordered, AreAbove, above-apart, rest-above}
use Rattle.gufi_stats.specs.Grouped.{total_seen, group_sum, numbers, grouped_seen, rows_counted}

-- the rows that have a number, and those of each of some numbers
abbrev pub part : (Row → ℕ) → List Row → ℕ → List Row
part key rows n = filter (λ row. eqb (key row) n) rows

abbrev pub parts : (Row → ℕ) → List Row → List ℕ → List Row
parts key rows ns = flat_map (part key rows) ns

abbrev others : (Row → ℕ) → List Row → ℕ → List Row
others key rows n = filter (λ row. not (eqb (key row) n)) rows

part-of-others : (key : Row → ℕ) (n m : ℕ) (rows : List Row) → eqb m n ≡ false → part key (others key rows n) m ≡ part key rows m
part-of-others key n m [] apart = refl
part-of-others key n m (row ∷ rows) apart =
    let rest = part-of-others key n m rows apart in
    elim (cases_Bool (eqb (key row) m)) [
      | inl same ↦
          let away : eqb (key row) n ≡ false = ap (λ k. eqb k n) (eqb-true (key row) m same) ∙ apart in
          rw (away, same) (ap (λ (l : List Row). row ∷ l) rest)
      | inr off ↦ elim (cases_Bool (eqb (key row) n)) [
        | inl here ↦ rw (here, off) rest
        | inr away ↦ rw (away, off) rest
      ]
    ]

parts-of-others : (key : Row → ℕ) (n : ℕ) (rows : List Row) (ns : List ℕ) → AreAbove n ns → parts key (others key rows n) ns ≡ parts key rows ns
parts-of-others key n rows [] above = refl
parts-of-others key n rows (m ∷ ns) above = λ i. part-of-others key n m rows (above-apart n m above.0) i ++ parts-of-others key n rows ns above.1 i

-- the number of each row is among these
abbrev AreAmong : (Row → ℕ) → List ℕ → List Row → Type 0
AreAmong key ns rows = AllByRecursion (λ row. list_any (eqb (key row)) ns ≡ true) rows

others-among : (key : Row → ℕ) (n : ℕ) (ns : List ℕ) (rows : List Row) → AreAmong key (n ∷ ns) rows → AreAmong key ns (others key rows n)
others-among key n ns [] all = tt
others-among key n ns (row ∷ rows) all =
    elim (cases_Bool (eqb (key row) n)) [
      | inl here ↦ rw here (others-among key n ns rows all.1)
      | inr away ↦ rw away (ap (λ b. b || list_any (eqb (key row)) ns) (sym away) ∙ all.0, others-among key n ns rows all.1)
    ]

parts-all : (key : Row → ℕ) (ns : List ℕ) (rows : List Row) → ascends nat_cmp ns ≡ true → AreAmong key ns rows → IsPermutation rows (parts key rows ns)
parts-all key [] [] up all = IsPermutation-refl _
parts-all key [] (row ∷ rows) up all = absurd (false≢true all.0)
parts-all key (n ∷ ns) rows up all =
    let behind : IsPermutation (others key rows n) (parts key rows ns) =
    subst (IsPermutation (others key rows n)) (parts-of-others key n rows ns (rest-above n ns up))
    (parts-all key ns (others key rows n) (ascends-tail nat_cmp nat_cmp_total n ns up) (others-among key n ns rows all)) in
    IsPermutation-trans _ _ _ (IsPermutation-filter_both (λ row. eqb (key row) n) (λ row. not (eqb (key row) n)) (λ row. refl) rows)
    (IsPermutation-append_right (part key rows n) (others key rows n) (parts key rows ns) behind)

all-among : (key : Row → ℕ) (rows : List Row) (ns : List ℕ) → ((k : ℕ) → list_any (eqb k) (map key rows) ≡ true → list_any (eqb k) ns ≡ true) → AreAmong key ns rows
all-among key [] ns each = tt
all-among key (row ∷ rows) ns each =
    (each (key row) (rw (eq-eqb (key row) (key row) refl) refl), all-among key rows ns (λ k h. each k (ap (λ b. eqb k (key row) || b) h ∙ or-true (eqb k (key row)))))

-- the parts of all numbers that a row has are the rows
pub parts-numbers : (key : Row → ℕ) (rows : List Row) → IsPermutation rows (parts key rows (numbers key rows))
parts-numbers key rows =
    parts-all key (numbers key rows) rows (ascends-sort_by nat_cmp nat_cmp_total (distinct (map key rows)) (Once-distinct (map key rows)))
    (all-among key rows (numbers key rows) (λ k h. any-sorted k (map key rows) ∙ h))

-- a row whose record is what was seen
abbrev row_seen : (Meta → Meta) → Row → Row
row_seen seen row = record { path = row.path; rec = record { link = row.rec.link; xattrs = row.rec.xattrs; acl = row.rec.acl; meta = seen row.rec.meta } }

total_seen-total : (seen : Meta → Meta) (rows : List Row) → total_seen seen rows ≡ total (map (row_seen seen) rows)
unfolding total total_seen
total_seen-total seen rows = ap total_of (sym (map-map (λ (row : Row). row.rec.meta) (row_seen seen) rows))

pub total_seen-nil : (seen : Meta → Meta) → empty ≡ total_seen seen []
unfolding total_seen
total_seen-nil seen = sym total_of-nil

pub total_seen-one : (seen : Meta → Meta) (row : Row) → total_seen seen (row ∷ []) ≡ meta_total (seen row.rec.meta)
unfolding total_seen
total_seen-one seen row = total_of-one (seen row.rec.meta)

pub total_seen-append : (seen : Meta → Meta) (rows others : List Row) → total_seen seen (rows ++ others) ≡ join (total_seen seen rows) (total_seen seen others)
unfolding total_seen
total_seen-append seen rows others =
    let meta : Row → Meta = λ row. seen row.rec.meta in
    ap total_of (map-append meta rows others) ∙ total_of-append (map meta rows) (map meta others)

total_seen-counts : (seen : Meta → Meta) (rows : List Row) → rows_in (total_seen seen rows) ≡ length rows
total_seen-counts seen rows = ap rows_in (total_seen-total seen rows) ∙ total-counts (map (row_seen seen) rows) ∙ length-map rows (row_seen seen)

total_seen-IsPermutation : (seen : Meta → Meta) (rows others : List Row) → IsPermutation rows others → total_seen seen rows ≡ total_seen seen others
unfolding total_seen
total_seen-IsPermutation seen rows others moved =
    let meta : Row → Meta = λ row. seen row.rec.meta in
    total_of-IsPermutation (map meta rows) (map meta others) (IsPermutation-map meta rows others moved)

counts-parts : (seen : Meta → Meta) (key : Row → ℕ) (rows : List Row) (ns : List ℕ) → rows_counted (map (λ n. (n, group_sum seen key rows n)) ns) ≡ sum_by (λ n. length (part key rows n)) ns
counts-parts seen key rows [] = refl
counts-parts seen key rows (n ∷ ns) =
    let sums : ℕ → ℕ × Summary = λ m. (m, group_sum seen key rows m) in
    sum_by-cons (λ (group : ℕ × Summary). rows_in group.1) (sums n) (map sums ns)
    ∙ (λ i. total_seen-counts seen (part key rows n) i + counts-parts seen key rows ns i)
    ∙ sym (sum_by-cons (λ m. length (part key rows m)) n ns)

-- each row is counted once
pub grouped-counted : (seen : Meta → Meta) (key : Row → ℕ) (groups : List (ℕ × Summary)) (rows : List Row) → groups ≡ grouped_seen seen key rows → length rows ≡ rows_counted groups
unfolding grouped_seen
grouped-counted seen key groups rows is =
    let ns = numbers key rows in
    sym (length_permutation rows (parts key rows ns) (parts-numbers key rows)) ∙ length-flat_map (part key rows) ns ∙ sym (counts-parts seen key rows ns) ∙ ap rows_counted (sym is)

-- the order of the rows does not matter
pub grouped-same : (seen : Meta → Meta) (key : Row → ℕ) (rows other : List Row) → IsPermutation rows other → grouped_seen seen key rows ≡ grouped_seen seen key other
unfolding grouped_seen
grouped-same seen key rows other moved =
    let same : (n : ℕ) → group_sum seen key rows n ≡ group_sum seen key other n = λ n. total_seen-IsPermutation seen _ _ (IsPermutation-filter (λ row. eqb (key row) n) rows other moved) in
    let ns : numbers key rows ≡ numbers key other = sorted-reordered (map key rows) (map key other) (IsPermutation-map key rows other moved) in
    λ i. map (λ n. (n, same n i)) (ns i)

pub grouped-reordered : (seen : Meta → Meta) (key : Row → ℕ) (groups : List (ℕ × Summary)) (rows other : List Row) → IsPermutation rows other → groups ≡ grouped_seen seen key rows → groups ≡ grouped_seen seen key other
grouped-reordered seen key groups rows other moved is = is ∙ grouped-same seen key rows other moved
