-- The sums of rows by a number, as one row more comes behind the others.
use Rattle.std.proofs.Common.{◌≡◌, ℕ, true, false, cond, List, [], ◌∷◌, ◌++◌, eqb, map, refl, sym, ap, ◌∙◌, subst, inl, inr, append-nil}
use Rattle.std.specs.Prelude.{Some, None, unwrap_or, ◌||◌}
use Rattle.std.specs.declared.cmp.Ordering.TheVariants.{Less}
use Rattle.std.specs.Ordering.{nat_cmp, is_eq, ordering_reverse}
use Rattle.std.specs.List.{list_any, filter, flat_map}
use Rattle.std.specs.Map.{lookup}
use Rattle.std.specs.BTreeMap.{insert_entry}
use Rattle.std.proofs.lemmas.Bool.{cases_Bool, eqb-true, eq-eqb, false≢true}
use Rattle.std.proofs.lemmas.Cmp.{nat_cmp_total}
use Rattle.std.proofs.lemmas.List.{map-append}
use Rattle.std.proofs.lemmas.List.Elements.{filter-append}
use Rattle.gufi_base.specs.declared.record.Meta.{Meta}
use Rattle.gufi_base.specs.declared.record.Row.{Row}
use Rattle.gufi_base.specs.Basics.{insert_by, sort_by, ascends, distinct, without}
use Rattle.gufi_base.proofs.SortedOnce.{order_cases, ascends-tail, ascends-sort_by}
use Rattle.gufi_sums.specs.declared.summary.Summary.{Summary}
use Rattle.gufi_sums.specs.Total.{total, empty, add, join}
use Rattle.gufi_stats.specs.Grouped.{total_seen, group_sum, numbers, grouped, grouped_seen, sum_in, group_lines}
use Rattle.gufi_stats.specs.GroupLaws.{total_seen-nil, total_seen-one, total_seen-append}
use Rattle.gufi_stats.specs.Reports.{group_line, by_key}
use Rattle.gufi_stats.specs.Numbers.{nat_cmp-eqb, eqb-sym, Once-distinct, sorted-behind, any-sorted, AreAbove, above-apart, without-above, insert-below, rest-above, above-both}

abbrev pub entries : (ℕ → Summary) → List ℕ → List (ℕ × Summary)
entries sums ns = map (λ n. (n, sums n)) ns

-- the sums differ at one number alone
abbrev Agree : (ℕ → Summary) → (ℕ → Summary) → ℕ → Type 0
Agree sums new k = (n : ℕ) → eqb n k ≡ false → new n ≡ sums n

entries-above : (sums new : ℕ → Summary) (k : ℕ) → Agree sums new k → (ns : List ℕ) → AreAbove k ns → entries new ns ≡ entries sums ns
entries-above sums new k agree [] above = refl
entries-above sums new k agree (n ∷ ns) above = λ i. (n, agree n (above-apart k n above.0) i) ∷ entries-above sums new k agree ns above.1 i

-- a sum is put at its number, in place of the one that stands there
put : (sums new : ℕ → Summary) (k : ℕ) → Agree sums new k → (ns : List ℕ) → ascends nat_cmp ns ≡ true
    → entries new (insert_by nat_cmp k (without k ns)) ≡ insert_entry nat_cmp (entries sums ns) k (new k)
put sums new k agree [] up = refl
put sums new k agree (m ∷ ns) up =
    let behind = rest-above m ns up in
    let goal : Type 0 = entries new (insert_by nat_cmp k (without k (m ∷ ns))) ≡ insert_entry nat_cmp (entries sums (m ∷ ns)) k (new k) in
    order_cases (nat_cmp k m) goal
    (λ below.
    let all = above-both k m ns below behind in
    rw (without-above k (m ∷ ns) all, insert-below k (m ∷ ns) all, below) (ap (λ (l : List (ℕ × Summary)). (k, new k) ∷ l) (entries-above sums new k agree (m ∷ ns) all)))
    (λ same.
    let is : k ≡ m = eqb-true k m (sym (nat_cmp-eqb k m) ∙ ap is_eq same) in
    let all : AreAbove k ns = subst (λ x. AreAbove x ns) (sym is) behind in
    rw (eq-eqb m k (sym is), without-above k ns all, insert-below k ns all, same) (λ i. (is i, new k) ∷ entries-above sums new k agree ns all i))
    (λ above.
    let below : nat_cmp m k ≡ Less = nat_cmp_total.antisymm m k ∙ ap ordering_reverse above in
    let off : eqb m k ≡ false = sym (nat_cmp-eqb m k) ∙ ap is_eq below in
    rw (off, below, above) (λ i. (m, agree m off i) ∷ put sums new k agree ns (ascends-tail nat_cmp nat_cmp_total m ns up) i))

pub sum-behind : (seen : Meta → Meta) (key : Row → ℕ) (rows : List Row) (row : Row) (n : ℕ) → group_sum seen key (rows ++ row ∷ []) n ≡ cond (eqb (key row) n) (add (group_sum seen key rows n) (seen row.rec.meta)) (group_sum seen key rows n)
sum-behind seen key rows row n =
    let here = filter (λ (r : Row). eqb (key r) n) rows in
    ap (total_seen seen) (filter-append (λ (r : Row). eqb (key r) n) rows (row ∷ []))
    ∙ elim (cases_Bool (eqb (key row) n)) [
      | inl same ↦ rw same (total_seen-append seen here (row ∷ []) ∙ ap (join (total_seen seen here)) (total_seen-one seen row))
      | inr other ↦ rw other (ap (total_seen seen) (append-nil here))
    ]

-- one row more, behind the others
pub grouped-behind : (seen : Meta → Meta) (key : Row → ℕ) (rows : List Row) (row : Row)
    → grouped_seen seen key (rows ++ row ∷ []) ≡ insert_entry nat_cmp (grouped_seen seen key rows) (key row) (add (group_sum seen key rows (key row)) (seen row.rec.meta))
unfolding grouped_seen
grouped-behind seen key rows row =
    let k = key row in
    let sums = group_sum seen key rows in
    let new = group_sum seen key (rows ++ row ∷ []) in
    let ns = numbers key rows in
    let there : eqb k k ≡ true = eq-eqb k k refl in
    let here : new k ≡ add (sums k) (seen row.rec.meta) = sum-behind seen key rows row k ∙ ap (λ b. cond b (add (sums k) (seen row.rec.meta)) (sums k)) there in
    let agree : Agree sums new k = λ n off. sum-behind seen key rows row n ∙ ap (λ b. cond b (add (sums n) (seen row.rec.meta)) (sums n)) (eqb-sym k n ∙ off) in
    ap (λ xs. entries new (sort_by nat_cmp (distinct xs))) (map-append key rows (row ∷ []))
    ∙ ap (entries new) (sorted-behind (map key rows) k)
    ∙ put sums new k agree ns (ascends-sort_by nat_cmp nat_cmp_total (distinct (map key rows)) (Once-distinct (map key rows)))
    ∙ ap (λ s. insert_entry nat_cmp (entries sums ns) k s) here

-- ---- the sum that stands at a number

look : (sums : ℕ → Summary) (n : ℕ) (ns : List ℕ) → lookup (λ m. is_eq (nat_cmp n m)) (entries sums ns) ≡ cond (list_any (eqb n) ns) (Some (sums n)) None
look sums n [] = refl
look sums n (m ∷ ns) =
    elim (cases_Bool (eqb n m)) [
      | inl same ↦ rw (nat_cmp-eqb n m, same) (ap (λ k. Some (sums k)) (sym (eqb-true n m same)))
      | inr other ↦ rw (nat_cmp-eqb n m, other) (look sums n ns)
    ]

none-there : (key : Row → ℕ) (rows : List Row) (n : ℕ) → list_any (eqb n) (map key rows) ≡ false → filter (λ row. eqb (key row) n) rows ≡ []
none-there key [] n none = refl
none-there key (row ∷ rows) n none =
    elim (cases_Bool (eqb n (key row))) [
      | inl same ↦ absurd (false≢true (sym none ∙ ap (λ b. b || list_any (eqb n) (map key rows)) same))
      | inr other ↦ rw (eqb-sym (key row) n, other) (none-there key rows n (ap (λ b. b || list_any (eqb n) (map key rows)) (sym other) ∙ none))
    ]

pub sum_in-grouped : (seen : Meta → Meta) (key : Row → ℕ) (rows : List Row) (n : ℕ) → sum_in (grouped_seen seen key rows) n ≡ group_sum seen key rows n
unfolding grouped_seen
sum_in-grouped seen key rows n =
    ap (λ found. unwrap_or found empty) (look (group_sum seen key rows) n (numbers key rows) ∙ ap (λ b. cond b (Some (group_sum seen key rows n)) None) (any-sorted n (map key rows)))
    ∙ elim (cases_Bool (list_any (eqb n) (map key rows))) [
      | inl there ↦ rw there refl
      | inr none ↦ rw (none) (total_seen-nil seen ∙ sym (ap (total_seen seen) (none-there key rows n none)))
    ]

pub grouped-none : (seen : Meta → Meta) (key : Row → ℕ) → [] ≡ grouped_seen seen key []
unfolding grouped_seen
grouped-none seen key = refl

-- ---- the lines

lines-mapped : (label : ℕ → List ℕ) (key : Row → ℕ) (rows : List Row) (ns : List ℕ)
    → group_lines label (entries (group_sum (λ meta. meta) key rows) ns) ≡ flat_map (group_line label key rows) ns
unfolding total total_seen
lines-mapped label key rows [] = refl
lines-mapped label key rows (n ∷ ns) = ap (λ (t : List ℕ). group_line label key rows n ++ t) (lines-mapped label key rows ns)

pub lines-grouped : (label : ℕ → List ℕ) (key : Row → ℕ) (rows : List Row) (groups : List (ℕ × Summary)) → groups ≡ grouped key rows → group_lines label groups ≡ by_key label key rows
unfolding grouped_seen by_key
lines-grouped label key rows groups is = ap (group_lines label) is ∙ lines-mapped label key rows (numbers key rows)
