-- Groups of rows, as other groups are joined to them.
use Rattle.std.proofs.Common.{◌≡◌, ℕ, ◌+◌, ◌-◌, ◌^◌, ◌<◌, ◌≤◌, true, false, List, [], ◌∷◌, ◌++◌, length, eqb, map, refl, sym, ap, ◌∙◌, subst, inl, inr, arith, append-nil, append_assoc}
use Rattle.std.specs.Prelude.{Option, Some, ◌||◌}
use Rattle.std.specs.declared.cmp.Ordering.TheVariants.{Equal}
use Rattle.std.specs.Ordering.{nat_cmp, is_eq}
use Rattle.std.specs.List.{list_any, AllByRecursion}
use Rattle.std.specs.BTreeMap.{insert_entry}
use Rattle.std.proofs.lemmas.Bool.{cases_Bool, eqb-true, eq-eqb, false≢true}
use Rattle.std.proofs.Math.Bool.{or-true}
use Rattle.std.proofs.lemmas.Bool.Decides.{nat_tests}
use Rattle.std.proofs.lemmas.List.Sums.{sum_by-cons}
use Rattle.std.proofs.lemmas.List.Sorted.{IsPermutation-append_right}
use Rattle.gufi_base.specs.declared.record.Meta.{Meta}
use Rattle.gufi_base.specs.declared.record.Row.{Row}
use Rattle.gufi_base.proofs.SortedOnce.{order_cases}
use Rattle.gufi_sums.specs.declared.summary.Summary.{Summary}
use Rattle.gufi_sums.specs.Total.{join, meta_total, rows_in, IsBounded}
use Rattle.gufi_sums.specs.Laws.{join_assoc}
use Rattle.gufi_stats.specs.Numbers.{nat_cmp-eqb, eqb-sym, any-sorted}
use Rattle.gufi_stats.specs.Grouped.{total_seen, group_sum, numbers, grouped, grouped_seen, sum_in, rows_counted, group_lines}
use Rattle.gufi_stats.specs.GroupLaws.{total_seen-one, total_seen-append, part, parts, parts-numbers, grouped-same, grouped-counted}
use Rattle.gufi_stats.specs.Joined.{joined, all_joined, with_run, AreBounded}
use Rattle.gufi_stats.specs.Reports.{by_key}
use Rattle.gufi_stats.specs.declared.sums.Run.{Run}
use Rattle.gufi_stats.proofs.Grouped.{entries, grouped-behind, sum_in-grouped, grouped-none, lines-grouped}

-- ---- the sum at a number, as one is put there

abbrev put : List (ℕ × Summary) → ℕ → Summary → List (ℕ × Summary)
put groups n sum = insert_entry nat_cmp groups n sum

same-number : (n : ℕ) → is_eq (nat_cmp n n) ≡ true
same-number n = nat_cmp-eqb n n ∙ eq-eqb n n refl

equal-number : (n : ℕ) → nat_cmp n n ≡ Equal
equal-number n = grind (arith, nat_tests)

sum-put : (groups : List (ℕ × Summary)) (n : ℕ) (sum : Summary) → sum_in (put groups n sum) n ≡ sum
sum-put [] n sum = rw same-number refl
sum-put (group ∷ groups) n sum =
    order_cases (nat_cmp n group.0) (sum_in (put (group ∷ groups) n sum) n ≡ sum)
    (λ below. rw (below, same-number) refl)
    (λ same. rw (same, same) refl)
    (λ above. rw (above, above) (sum-put groups n sum))

sum-put-other : (groups : List (ℕ × Summary)) (n m : ℕ) (sum : Summary) → eqb m n ≡ false → sum_in (put groups n sum) m ≡ sum_in groups m
sum-put-other [] n m sum apart = rw (nat_cmp-eqb m n, apart) refl
sum-put-other (group ∷ groups) n m sum apart =
    order_cases (nat_cmp n group.0) (sum_in (put (group ∷ groups) n sum) m ≡ sum_in (group ∷ groups) m)
    (λ below. rw (below, nat_cmp-eqb m n, apart) refl)
    (λ same.
    let is : n ≡ group.0 = eqb-true n group.0 (sym (nat_cmp-eqb n group.0) ∙ ap is_eq same) in
    let off : is_eq (nat_cmp m group.0) ≡ false = nat_cmp-eqb m group.0 ∙ ap (eqb m) (sym is) ∙ apart in
    rw (same, off) refl)
    (λ above. rw above
    (elim (cases_Bool (is_eq (nat_cmp m group.0))) [
      | inl here ↦ rw here refl
      | inr off ↦ rw off (sum-put-other groups n m sum apart)
    ]))

put-again : (groups : List (ℕ × Summary)) (n : ℕ) (first sum : Summary) → put (put groups n first) n sum ≡ put groups n sum
put-again [] n first sum = rw equal-number refl
put-again (group ∷ groups) n first sum =
    order_cases (nat_cmp n group.0) (put (put (group ∷ groups) n first) n sum ≡ put (group ∷ groups) n sum)
    (λ below. rw (below, equal-number) refl)
    (λ same. rw (same, same) refl)
    (λ above. rw (above, above) (ap (λ (l : List (ℕ × Summary)). group ∷ l) (put-again groups n first sum)))

-- a sum that is joined behind another at its number
pub joined-twice : (groups : List (ℕ × Summary)) (n : ℕ) (a b : Summary) → joined (joined groups n a) n b ≡ joined groups n (join a b)
unfolding joined
joined-twice groups n a b =
    let first = join (sum_in groups n) a in
    ap (λ s. put (put groups n first) n (join s b)) (sum-put groups n first)
    ∙ put-again groups n first (join first b)
    ∙ ap (put groups n) (join_assoc (sum_in groups n) a b)

pub joined-most : (groups : List (ℕ × Summary)) (n m : ℕ) (sum : Summary) → rows_in (sum_in (joined groups n sum) m) ≤ rows_in (sum_in groups m) + rows_in sum
unfolding joined
joined-most groups n m sum =
    elim (cases_Bool (eqb m n)) [
      | inl same ↦
          let is : m ≡ n = eqb-true m n same in
          subst (λ k. rows_in (sum_in (put groups n (join (sum_in groups n) sum)) k) ≤ rows_in (sum_in groups k) + rows_in sum) (sym is)
          (rw (sum-put groups n (join (sum_in groups n) sum)) (omega arith))
      | inr apart ↦ rw (sum-put-other groups n m (join (sum_in groups n) sum) apart) (omega arith)
    ]

-- where the sum at its number is at least the joined one
pub joined-there : (groups : List (ℕ × Summary)) (n : ℕ) (sum : Summary) → rows_in (sum_in (joined groups n sum) n) ≡ rows_in (sum_in groups n) + rows_in sum
unfolding joined
joined-there groups n sum = rw (sum-put groups n (join (sum_in groups n) sum)) (omega arith)

pub bounded-put : (groups : List (ℕ × Summary)) (n : ℕ) (sum : Summary) → AreBounded groups → IsBounded sum → AreBounded (put groups n sum)
bounded-put [] n sum all one = (one, tt)
bounded-put (group ∷ groups) n sum all one =
    order_cases (nat_cmp n group.0) (AreBounded (put (group ∷ groups) n sum))
    (λ below. rw below (one, all))
    (λ same. rw same (one, all.1))
    (λ above. rw above (all.0, bounded-put groups n sum all.1 one))

pub sum-bounded : (groups : List (ℕ × Summary)) (n : ℕ) → AreBounded groups → IsBounded (sum_in groups n)
sum-bounded [] n all = omega arith
sum-bounded (group ∷ groups) n all =
    elim (cases_Bool (is_eq (nat_cmp n group.0))) [
      | inl here ↦ rw here all.0
      | inr off ↦ rw off (sum-bounded groups n all.1)
    ]

pub sum-most : (groups : List (ℕ × Summary)) (n : ℕ) → rows_in (sum_in groups n) ≤ rows_counted groups
sum-most [] n = omega arith
sum-most (group ∷ groups) n =
    let rest = sum-most groups n in
    let all = sum_by-cons (λ (each : ℕ × Summary). rows_in each.1) group groups in
    elim (cases_Bool (is_eq (nat_cmp n group.0))) [
      | inl here ↦ rw here (omega arith)
      | inr off ↦ rw off (omega arith)
    ]

-- ---- groups of rows

-- one row more
pub one-joined : (seen : Meta → Meta) (key : Row → ℕ) (rows : List Row) (row : Row) → grouped_seen seen key (rows ++ row ∷ []) ≡ joined (grouped_seen seen key rows) (key row) (meta_total (seen row.rec.meta))
unfolding joined
one-joined seen key rows row =
    grouped-behind seen key rows row ∙ ap (λ s. put (grouped_seen seen key rows) (key row) (join s (meta_total (seen row.rec.meta)))) (sym (sum_in-grouped seen key rows (key row)))

-- more rows of one number
many-joined : (seen : Meta → Meta) (key : Row → ℕ) (m : ℕ) (rows more : List Row) → AllByRecursion (λ row. key row ≡ m) more → 0 < length more
    → grouped_seen seen key (rows ++ more) ≡ joined (grouped_seen seen key rows) m (total_seen seen more)
many-joined seen key m rows [] each some = absurd (omega arith)
many-joined seen key m rows (row ∷ []) each some = one-joined seen key rows row ∙ (λ i. joined (grouped_seen seen key rows) (each.0 i) (sym (total_seen-one seen row) i))
many-joined seen key m rows (row ∷ next ∷ more) each some =
    let one : grouped_seen seen key (rows ++ row ∷ []) ≡ joined (grouped_seen seen key rows) m (meta_total (seen row.rec.meta)) =
    one-joined seen key rows row ∙ ap (λ k. joined (grouped_seen seen key rows) k (meta_total (seen row.rec.meta))) each.0 in
    ap (grouped_seen seen key) (sym (append_assoc rows (row ∷ []) (next ∷ more)))
    ∙ many-joined seen key m (rows ++ row ∷ []) (next ∷ more) each.1 (omega arith)
    ∙ ap (λ g. joined g m (total_seen seen (next ∷ more))) one
    ∙ joined-twice (grouped_seen seen key rows) m (meta_total (seen row.rec.meta)) (total_seen seen (next ∷ more))
    ∙ ap (joined (grouped_seen seen key rows) m) (ap (λ s. join s (total_seen seen (next ∷ more))) (sym (total_seen-one seen row)) ∙ sym (total_seen-append seen (row ∷ []) (next ∷ more)))

part-each : (key : Row → ℕ) (less n : ℕ) (rows : List Row) → AllByRecursion (λ row. key row - less ≡ n - less) (part key rows n)
part-each key less n [] = tt
part-each key less n (row ∷ rows) =
    elim (cases_Bool (eqb (key row) n)) [
      | inl here ↦ rw here (ap (λ k. k - less) (eqb-true (key row) n here), part-each key less n rows)
      | inr off ↦ rw off (part-each key less n rows)
    ]

part-some : (key : Row → ℕ) (n : ℕ) (rows : List Row) → list_any (eqb n) (map key rows) ≡ true → 0 < length (part key rows n)
part-some key n [] there = absurd (false≢true there)
part-some key n (row ∷ rows) there =
    elim (cases_Bool (eqb n (key row))) [
      | inl here ↦ rw (eqb-sym (key row) n, here) (omega arith)
      | inr off ↦ rw (eqb-sym (key row) n, off) (part-some key n rows (ap (λ b. b || list_any (eqb n) (map key rows)) (sym off) ∙ there))
    ]

parts-joined : (seen : Meta → Meta) (key : Row → ℕ) (less : ℕ) (rows more : List Row) (ns : List ℕ) → AllByRecursion (λ n. list_any (eqb n) (map key more) ≡ true) ns
    → all_joined less (grouped_seen seen (λ row. key row - less) rows) (entries (group_sum seen key more) ns) ≡ grouped_seen seen (λ row. key row - less) (rows ++ parts key more ns)
parts-joined seen key less rows more [] there = ap (grouped_seen seen (λ row. key row - less)) (sym (append-nil rows))
parts-joined seen key less rows more (n ∷ ns) there =
    let lower : Row → ℕ = λ row. key row - less in
    ap (λ g. all_joined less g (entries (group_sum seen key more) ns)) (sym (many-joined seen lower (n - less) rows (part key more n) (part-each key less n more) (part-some key n more there.0)))
    ∙ parts-joined seen key less (rows ++ part key more n) more ns there.1
    ∙ ap (grouped_seen seen lower) (append_assoc rows (part key more n) (parts key more ns))

all-there : (xs ns : List ℕ) → ((n : ℕ) → list_any (eqb n) ns ≡ true → list_any (eqb n) xs ≡ true) → AllByRecursion (λ n. list_any (eqb n) xs ≡ true) ns
all-there xs [] each = tt
all-there xs (n ∷ ns) each =
    (each n (rw (eq-eqb n n refl) refl), all-there xs ns (λ m h. each m (ap (λ b. eqb m n || b) h ∙ or-true (eqb m n))))

-- the groups of other rows, joined to those of some
pub grouped-joined : (seen : Meta → Meta) (key : Row → ℕ) (less : ℕ) (rows more : List Row)
    → all_joined less (grouped_seen seen (λ row. key row - less) rows) (grouped_seen seen key more) ≡ grouped_seen seen (λ row. key row - less) (rows ++ more)
unfolding grouped_seen
grouped-joined seen key less rows more =
    parts-joined seen key less rows more (numbers key more) (all-there (map key more) (numbers key more) (λ n h. sym (any-sorted n (map key more)) ∙ h))
    ∙ sym (grouped-same seen (λ row. key row - less) (rows ++ more) (rows ++ parts key more (numbers key more)) (IsPermutation-append_right rows more (parts key more (numbers key more)) (parts-numbers key more)))

-- ---- the groups as they are kept

pub run-there : (groups : List (ℕ × Summary)) (last : Option Run) (run : Run) (all : List (ℕ × Summary)) → last ≡ Some run → with_run groups last ≡ all
    → rows_in (sum_in all run.number) ≡ rows_in (sum_in groups run.number) + rows_in run.sum
run-there groups last run all is view =
    ap (λ g. rows_in (sum_in g run.number)) (sym view ∙ ap (with_run groups) is) ∙ joined-there groups run.number run.sum

-- a row is added to the run
pub run-longer : (groups : List (ℕ × Summary)) (last : Option Run) (run : Run) (all : List (ℕ × Summary)) (n : ℕ) (sum more : Summary) → last ≡ Some run → with_run groups last ≡ all
    → run.number ≡ n → sum ≡ join run.sum more → joined groups run.number sum ≡ joined all n more
run-longer groups last run all n sum more is view number added =
    ap (joined groups run.number) added
    ∙ sym (joined-twice groups run.number run.sum more)
    ∙ (λ i. joined ((sym (ap (with_run groups) is) ∙ view) i) (number i) more)

pub next-joined : (less : ℕ) (groups new left rest : List (ℕ × Summary)) (n k : ℕ) (sum : Summary) → left ≡ (n, sum) ∷ rest → k ≡ n - less → new ≡ joined groups k sum
    → all_joined less new rest ≡ all_joined less groups left
next-joined less groups new left rest n k sum is lower put =
    ap (λ g. all_joined less g rest) (put ∙ ap (λ m. joined groups m sum) lower) ∙ ap (all_joined less groups) (sym is)

pub next-room : (groups new left rest : List (ℕ × Summary)) (n k : ℕ) (sum : Summary) → left ≡ (n, sum) ∷ rest → new ≡ joined groups k sum
    → ((m : ℕ) → rows_in (sum_in groups m) + rows_counted left < 2 ^ 40) → (m : ℕ) → rows_in (sum_in new m) + rows_counted rest < 2 ^ 40
next-room groups new left rest n k sum is put room m =
    let most = joined-most groups k m sum in
    let here : rows_in (sum_in new m) ≡ rows_in (sum_in (joined groups k sum) m) = ap (λ g. rows_in (sum_in g m)) put in
    let all : rows_counted left ≡ rows_in sum + rows_counted rest = ap rows_counted is ∙ sum_by-cons (λ (each : ℕ × Summary). rows_in each.1) (n, sum) rest in
    let fits = room m in
    omega (arith, most, here, all, fits)

-- ---- the rows that groups are made of

pub rows-most : (seen : Meta → Meta) (key : Row → ℕ) (groups : List (ℕ × Summary)) (rows : List Row) (n : ℕ) → groups ≡ grouped_seen seen key rows → rows_in (sum_in groups n) ≤ length rows
rows-most seen key groups rows n is =
    let count = grouped-counted seen key groups rows is in
    let most = sum-most groups n in
    omega (arith, count, most)

pub row-counted : (seen : Meta → Meta) (key : Row → ℕ) (rows : List Row) (row : Row) (n : ℕ) (meta : Meta) (groups new : List (ℕ × Summary)) → n ≡ key row → meta ≡ seen row.rec.meta → groups ≡ grouped_seen seen key rows
    → new ≡ joined groups n (meta_total meta) → new ≡ grouped_seen seen key (rows ++ row ∷ [])
row-counted seen key rows row n meta groups new number same is put =
    put ∙ (λ i. joined (is i) (number i) (meta_total (same i))) ∙ sym (one-joined seen key rows row)

less-nothing : (key : Row → ℕ) → (λ row. key row - 0) ≡ key
less-nothing key = λ i row. same (key row) i where
  same : (n : ℕ) → n - 0 ≡ n
  same n = omega arith

pub rows-joined : (seen : Meta → Meta) (key : Row → ℕ) (rows more : List Row) (groups other new : List (ℕ × Summary)) → groups ≡ grouped_seen seen key rows → other ≡ grouped_seen seen key more
    → new ≡ all_joined 0 groups other → new ≡ grouped_seen seen key (rows ++ more)
rows-joined seen key rows more groups other new own others put =
    put ∙ (λ i. all_joined 0 (own i) (others i))
    ∙ subst (λ (k : Row → ℕ). all_joined 0 (grouped_seen seen k rows) (grouped_seen seen key more) ≡ grouped_seen seen k (rows ++ more)) (less-nothing key) (grouped-joined seen key 0 rows more)

pub lines-less : (label : ℕ → List ℕ) (key : Row → ℕ) (less : ℕ) (rows : List Row) (groups : List (ℕ × Summary)) → groups ≡ grouped key rows
    → group_lines label (all_joined less [] groups) ≡ by_key label (λ row. key row - less) rows
lines-less label key less rows groups is =
    let lower : Row → ℕ = λ row. key row - less in
    lines-grouped label lower rows (all_joined less [] groups)
    ((λ i. all_joined less (grouped-none (λ meta. meta) lower i) (is i)) ∙ grouped-joined (λ meta. meta) key less [] rows)

-- where nothing is taken off the numbers
pub by_key-less : (label : ℕ → List ℕ) (key : Row → ℕ) (rows : List Row) → by_key label (λ row. key row - 0) rows ≡ by_key label key rows
by_key-less label key rows = ap (λ (k : Row → ℕ). by_key label k rows) (less-nothing key)
