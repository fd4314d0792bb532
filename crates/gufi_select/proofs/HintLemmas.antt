-- A condition's hint is true of a row exactly where the condition is, and a SELECT's may hold where it does.
use Rattle.std.proofs.Common.{◌≡◌, ℕ, ◌^◌, Bool, true, false, cond, List, [], ◌∷◌, refl, sym, ap, ap₂, ◌∙◌, subst, arith}
use Rattle.std.specs.Prelude.{ℤ, pos, ◌+ℤ◌, ◌-ℤ◌, int_le, int_lt, ◌&&◌, ◌||◌, ◌==◌, not, nat_lt, Option, Some, None, if◌then◌else◌}
use Rattle.std.specs.declared.cmp.Ordering.{Ordering}
use Rattle.std.specs.declared.cmp.Ordering.TheVariants as orders
use Rattle.std.specs.Ordering.{int_cmp, nat_cmp, is_eq, is_ne, is_lt, is_le, is_gt, is_ge}
use Rattle.std.specs.Cmp.Lexicographic.{slice_cmp}
use Rattle.std.proofs.lemmas.Bool.{and_parts, eqb-true, false≢true}
use Rattle.std.proofs.lemmas.Bool.Decides.{nat_tests}
use Rattle.std.proofs.lemmas.Int.{ints}
use Rattle.gufi_base.specs.declared.record.Kind.{Kind as KindOf}
use Rattle.gufi_base.specs.declared.record.Kind.TheVariants as kinds
use Rattle.gufi_base.specs.declared.record.Meta.{Meta}
use Rattle.gufi_base.specs.declared.record.Row.{Row}
use Rattle.gufi_base.specs.declared.hint.Hint.{Hint}
use Rattle.gufi_base.specs.declared.hint.Hint.TheVariants as hints
use Rattle.gufi_base.specs.Kinds.{kind_letter, kind_of_letter, read_kind, is_dir}
use Rattle.gufi_base.specs.Rows.{fits_types}
use Rattle.gufi_formula.specs.Formulas.{Formula, test, negation, both, holds as truth_of}
use Rattle.gufi_formula.specs.Hints.{is_in, formula_of, only_one, AreWhole, Chance, certain, turned, chance, chance_at, chance_or, chance_told, fits_sums, may_hold}
use Rattle.gufi_formula.specs.Leaves.{is_leaf, tells, leaf_formula, turned_formula}
use Rattle.gufi_formula.specs.Ranges.{least_time, greatest_time}
use Rattle.gufi_formula.proofs.HintLemmas.{Covers, told_covers, covers_turned, may_hold_within, joined, postfix_read, postfix_formula, postfix_whole, postfix_covers}
use Rattle.gufi_formula.proofs.RangeLemmas.{InRange, in_range, not_above, sizes_exact, sizes_speak, uids_exact, gids_exact, times_exact}
use Rattle.gufi_select.specs.declared.column.Column.TheVariants.{Kind, Uid, Gid, Size, Mtime}
use Rattle.gufi_select.specs.declared.column.Table.{Table}
use Rattle.gufi_select.specs.declared.column.Table.TheVariants.{Entries, Summary, Rows}
use Rattle.gufi_select.specs.declared.operator.Operator.{Operator}
use Rattle.gufi_select.specs.declared.operator.Operator.TheVariants.{Equal, Unequal, Below, AtMost, Above, AtLeast}
use Rattle.gufi_select.specs.declared.condition.Value.TheVariants.{Text, Number}
use Rattle.gufi_select.specs.declared.condition.Condition.{Condition}
use Rattle.gufi_select.specs.declared.condition.Condition.TheVariants.{Compares, Finds}
use Rattle.gufi_select.specs.declared.hint.Range.{Range}
use Rattle.gufi_select.specs.Columns.{Select, seen_row, admits, condition_holds, is_in_table, holds_with, regexp_holds, select_holds}
use Rattle.gufi_select.specs.ConditionHints.{ends, kind_leaf, leaf_of, is_turned, condition_hints, hints_in, select_hints}
use Rattle.gufi_select.specs.WholeHints.{condition_leaf, conditions_whole}

-- ---- numbers

abbrev order_by : Bool → Bool → Ordering
order_by below above = cond below orders.Less (cond above orders.Greater orders.Equal)

eq_by : (b c : Bool) → is_eq (order_by b c) ≡ not b && not c
eq_by true c = refl
eq_by false true = refl
eq_by false false = refl

lt_by : (b c : Bool) → is_lt (order_by b c) ≡ b
lt_by true c = refl
lt_by false true = refl
lt_by false false = refl

le_by : (b c : Bool) → is_le (order_by b c) ≡ b || not c
le_by true c = refl
le_by false true = refl
le_by false false = refl

gt_by : (b c : Bool) → is_gt (order_by b c) ≡ not b && c
gt_by true c = refl
gt_by false true = refl
gt_by false false = refl

ge_by : (b c : Bool) → is_ge (order_by b c) ≡ not b
ge_by true c = refl
ge_by false true = refl
ge_by false false = refl

-- the comparison that a leaf tells: of `<>` it is `=`
abbrev told_by : Operator → Operator
told_by Unequal = Equal
told_by op = op

abbrev contains : Range → ℤ → Bool
contains e v = int_le e.first v && int_le v e.last

equal_ends : (v n : ℤ) → (int_le n v && int_le v n) ≡ (not (int_lt v n) && not (int_lt n v))
equal_ends v n = grind (arith, ints)

some_below : (least v n : ℤ) → int_le least v ≡ true → int_lt least n ≡ true → (int_le least v && int_le v (n -ℤ pos 1)) ≡ int_lt v n
some_below least v n low e = grind (arith, ints)

none_below : (least v n : ℤ) → int_le least v ≡ true → int_lt least n ≡ false → (int_le (pos 1) v && int_le v (pos 0)) ≡ int_lt v n
none_below least v n low e = grind (arith, ints)

some_above : (most v n : ℤ) → int_le v most ≡ true → int_lt n most ≡ true → (int_le (n +ℤ pos 1) v && int_le v most) ≡ (not (int_lt v n) && int_lt n v)
some_above most v n high e = grind (arith, ints)

none_above : (most v n : ℤ) → int_le v most ≡ true → int_lt n most ≡ false → (int_le (pos 1) v && int_le v (pos 0)) ≡ (not (int_lt v n) && int_lt n v)
none_above most v n high e = grind (arith, ints)

below_ends : (least v n : ℤ) → int_le least v ≡ true → contains (if int_lt least n then record { first = least; last = n -ℤ pos 1 } else record { first = pos 1; last = pos 0 }) v ≡ int_lt v n
below_ends least v n low = by (int_lt least n) refl where
  by : (b : Bool) → int_lt least n ≡ b → contains (if b then record { first = least; last = n -ℤ pos 1 } else record { first = pos 1; last = pos 0 }) v ≡ int_lt v n
  by true e = some_below least v n low e
  by false e = none_below least v n low e

at_most_ends : (least v n : ℤ) → int_le least v ≡ true → (int_le least v && int_le v n) ≡ (int_lt v n || not (int_lt n v))
at_most_ends least v n low = grind (arith, ints)

above_ends : (most v n : ℤ) → int_le v most ≡ true → contains (if int_lt n most then record { first = n +ℤ pos 1; last = most } else record { first = pos 1; last = pos 0 }) v ≡ (not (int_lt v n) && int_lt n v)
above_ends most v n high = by (int_lt n most) refl where
  by : (b : Bool) → int_lt n most ≡ b → contains (if b then record { first = n +ℤ pos 1; last = most } else record { first = pos 1; last = pos 0 }) v ≡ (not (int_lt v n) && int_lt n v)
  by true e = some_above most v n high e
  by false e = none_above most v n high e

at_least_ends : (most v n : ℤ) → int_le v most ≡ true → (int_le n v && int_le v most) ≡ not (int_lt v n)
at_least_ends most v n high = grind (arith, ints)

ends_exact : (least most v : ℤ) (op : Operator) (n : ℤ) → int_le least v ≡ true → int_le v most ≡ true → contains (ends least most op n) v ≡ admits (told_by op) (int_cmp v n)
unfolding ends
ends_exact least most v Equal n low high = equal_ends v n ∙ sym (eq_by (int_lt v n) (int_lt n v))
ends_exact least most v Unequal n low high = equal_ends v n ∙ sym (eq_by (int_lt v n) (int_lt n v))
ends_exact least most v Below n low high = below_ends least v n low ∙ sym (lt_by (int_lt v n) (int_lt n v))
ends_exact least most v AtMost n low high = at_most_ends least v n low ∙ sym (le_by (int_lt v n) (int_lt n v))
ends_exact least most v Above n low high = above_ends most v n high ∙ sym (gt_by (int_lt v n) (int_lt n v))
ends_exact least most v AtLeast n low high = at_least_ends most v n high ∙ sym (ge_by (int_lt v n) (int_lt n v))

-- ---- types

-- a letter names no type but its own
chain : (b : Bool) (c n : ℕ) (here k : KindOf) (rest : Option KindOf) → (c == n) ≡ b → kind_letter here ≡ n → (rest ≡ Some k → kind_letter k ≡ c) → (if b then Some here else rest) ≡ Some k → kind_letter k ≡ c
chain true c n here k rest e same more is = let it : here ≡ k = cc in ap kind_letter (sym it) ∙ same ∙ sym (eqb-true c n e)
chain false c n here k rest e same more is = more is

letter_back : (c : ℕ) (k : KindOf) → kind_of_letter c ≡ Some k → kind_letter k ≡ c
letter_back c k =
    chain (c == 98) c 98 kinds.Block k _ refl refl (chain (c == 99) c 99 kinds.Char k _ refl refl (chain (c == 100) c 100 kinds.Dir k _ refl refl (chain (c == 108) c 108 kinds.Link k _ refl refl
    (chain (c == 112) c 112 kinds.Fifo k _ refl refl (chain (c == 102) c 102 kinds.File k _ refl refl (chain (c == 115) c 115 kinds.Socket k None refl refl (λ e. cc)))))))

text_back : (text : List ℕ) (k : KindOf) → read_kind text ≡ Some k → text ≡ kind_letter k ∷ []
text_back [] k e = cc
text_back (c ∷ []) k e = ap (λ n. n ∷ []) (sym (letter_back c k e))
text_back (c ∷ (d ∷ rest)) k e = cc

same_kind : (k m : KindOf) → (kind_letter k == kind_letter m) ≡ is_eq (slice_cmp nat_cmp (kind_letter m ∷ []) (kind_letter k ∷ []))
same_kind kinds.Block kinds.Block = refl
same_kind kinds.Char kinds.Char = refl
same_kind kinds.Dir kinds.Dir = refl
same_kind kinds.Link kinds.Link = refl
same_kind kinds.Fifo kinds.Fifo = refl
same_kind kinds.File kinds.File = refl
same_kind kinds.Socket kinds.Socket = refl
same_kind _ _ = refl

kind_exact : (row : Row) (text : List ℕ) (kind : Option KindOf) → read_kind text ≡ kind → tells (kind_leaf kind) ≡ true
    → chance_at row.rec.meta (kind_leaf kind) ≡ certain (is_eq (slice_cmp nat_cmp (kind_letter row.rec.meta.kind ∷ []) text))
kind_exact row text None e known = absurd (false≢true known)
kind_exact row text (Some k) e known =
    ap certain (same_kind k row.rec.meta.kind ∙ ap (λ t. is_eq (slice_cmp nat_cmp (kind_letter row.rec.meta.kind ∷ []) t)) (sym (text_back text k e)))

-- ---- conditions

-- the condition that a leaf tells
abbrev told : Condition → Condition
told (Compares column op literal) = Compares column (told_by op) literal
told Finds = Finds

natural_low : (n : ℕ) → int_le (pos 0) (pos n) ≡ true
natural_low n = grind (arith, nat_tests)

size_high : (n : ℕ) → nat_lt n (2 ^ 64) ≡ true → int_le (pos n) (pos 18446744073709551615) ≡ true
size_high n h = grind (arith, nat_tests)

id_high : (n : ℕ) → nat_lt n (2 ^ 32) ≡ true → int_le (pos n) (pos 4294967295) ≡ true
id_high n h = grind (arith, nat_tests)

leaf_exact : (found : Bool) (c : Condition) (row : Row) (depth : ℕ) → InRange row.rec.meta (leaf_of c) → tells (leaf_of c) ≡ true
    → chance_at row.rec.meta (leaf_of c) ≡ certain (condition_holds found (told c) (seen_row row depth))
leaf_exact found (Compares Size op (Number n)) row depth r known =
    let e = ends (pos 0) (pos 18446744073709551615) op n in
    sizes_exact row.rec.meta e.first e.last (r.size (sizes_speak e.first e.last)) ∙ ap certain (ends_exact (pos 0) (pos 18446744073709551615) (pos row.rec.meta.size) op n (natural_low row.rec.meta.size) (size_high row.rec.meta.size (r.size (sizes_speak e.first e.last))))
leaf_exact found (Compares Mtime op (Number n)) row depth r known =
    let e = ends least_time greatest_time op n in
    let f = and_parts (int_le least_time row.rec.meta.mtime) (int_lt row.rec.meta.mtime (pos (2 ^ 63))) r.mtime in
    times_exact row.rec.meta e.first e.last r.mtime ∙ ap certain (ends_exact least_time greatest_time row.rec.meta.mtime op n f.0 (not_above row.rec.meta.mtime f.1))
leaf_exact found (Compares Uid op (Number n)) row depth r known =
    let e = ends (pos 0) (pos 4294967295) op n in
    uids_exact row.rec.meta e.first e.last r.uid ∙ ap certain (ends_exact (pos 0) (pos 4294967295) (pos row.rec.meta.uid) op n (natural_low row.rec.meta.uid) (id_high row.rec.meta.uid r.uid))
leaf_exact found (Compares Gid op (Number n)) row depth r known =
    let e = ends (pos 0) (pos 4294967295) op n in
    gids_exact row.rec.meta e.first e.last r.gid ∙ ap certain (ends_exact (pos 0) (pos 4294967295) (pos row.rec.meta.gid) op n (natural_low row.rec.meta.gid) (id_high row.rec.meta.gid r.gid))
leaf_exact found (Compares Kind Equal (Text text)) row depth r known = kind_exact row text (read_kind text) refl known
leaf_exact found (Compares Kind Unequal (Text text)) row depth r known = kind_exact row text (read_kind text) refl known
leaf_exact found (Compares column op (Number n)) row depth r known = absurd (false≢true known)
leaf_exact found (Compares column op (Text text)) row depth r known = absurd (false≢true known)
leaf_exact found Finds row depth r known = absurd (false≢true known)

turned_order : (o : Ordering) → turned (certain (is_eq o)) ≡ certain (is_ne o)
turned_order orders.Less = refl
turned_order orders.Equal = refl
turned_order orders.Greater = refl

turned_exact : (row : Row) (hint : Hint) (o : Ordering) → is_leaf hint ≡ true → tells hint ≡ true → chance_at row.rec.meta hint ≡ certain (is_eq o)
    → chance_or (chance_at row.rec.meta) (formula_of (if tells hint then hint ∷ hints.Not ∷ [] else hint ∷ [])) ≡ certain (is_ne o)
turned_exact row hint o leaf known e =
    ap (λ (b : Bool). chance_or (chance_at row.rec.meta) (formula_of (if b then hint ∷ hints.Not ∷ [] else hint ∷ []))) known
    ∙ ap (chance_or (chance_at row.rec.meta)) (turned_formula hint leaf) ∙ ap turned e ∙ turned_order o

-- the hints of a condition are true of a row exactly where it is
condition_known : (found : Bool) (c : Condition) (row : Row) (depth : ℕ) → InRange row.rec.meta (leaf_of c) → tells (leaf_of c) ≡ true
    → chance_or (chance_at row.rec.meta) (formula_of (condition_hints c)) ≡ certain (condition_holds found c (seen_row row depth))
condition_known found (Compares Size Unequal (Number n)) row depth r known =
    let c = Compares Size Unequal (Number n) in turned_exact row (leaf_of c) (int_cmp (pos row.rec.meta.size) n) (condition_leaf c) known (leaf_exact found c row depth r known)
condition_known found (Compares Mtime Unequal (Number n)) row depth r known =
    let c = Compares Mtime Unequal (Number n) in turned_exact row (leaf_of c) (int_cmp row.rec.meta.mtime n) (condition_leaf c) known (leaf_exact found c row depth r known)
condition_known found (Compares Uid Unequal (Number n)) row depth r known =
    let c = Compares Uid Unequal (Number n) in turned_exact row (leaf_of c) (int_cmp (pos row.rec.meta.uid) n) (condition_leaf c) known (leaf_exact found c row depth r known)
condition_known found (Compares Gid Unequal (Number n)) row depth r known =
    let c = Compares Gid Unequal (Number n) in turned_exact row (leaf_of c) (int_cmp (pos row.rec.meta.gid) n) (condition_leaf c) known (leaf_exact found c row depth r known)
condition_known found (Compares Kind Unequal (Text text)) row depth r known =
    let c = Compares Kind Unequal (Text text) in
    turned_exact row (leaf_of c) (slice_cmp nat_cmp (kind_letter row.rec.meta.kind ∷ []) text) (condition_leaf c) known (leaf_exact found c row depth r known)
condition_known found (Compares column Unequal (Number n)) row depth r known = absurd (false≢true known)
condition_known found (Compares column Unequal (Text text)) row depth r known = absurd (false≢true known)
condition_known found (Compares column op literal) row depth r known =
    let c = Compares column op literal in ap (chance_or (chance_at row.rec.meta)) (leaf_formula (leaf_of c) (condition_leaf c)) ∙ leaf_exact found c row depth r known
condition_known found Finds row depth r known = absurd (false≢true known)

pub condition_exact : (found : Bool) (c : Condition) (row : Row) (depth : ℕ) → fits_types row.rec ≡ true → tells (leaf_of c) ≡ true
    → chance_or (chance_at row.rec.meta) (formula_of (condition_hints c)) ≡ certain (condition_holds found c (seen_row row depth))
condition_exact found c row depth fits known = condition_known found c row depth (in_range row.rec (leaf_of c) fits) known

turned_back : (c : Chance) (b : Bool) → turned c ≡ certain b → c ≡ certain (not b)
turned_back c true e = ap turned e
turned_back c false e = ap turned e

turned_covers : (c : Chance) (b : Bool) → Covers c (not b) → Covers (turned c) b
turned_covers c true k = covers_turned c false k
turned_covers c false k = covers_turned c true k

-- a leaf, turned round or not
signed_covers : (meta : Meta) (hint : Hint) (round b : Bool) → is_leaf hint ≡ true → fits_sums meta ≡ true
    → (InRange meta hint → tells hint ≡ true → chance_or (chance_at meta) (formula_of (if round then hint ∷ hints.Not ∷ [] else hint ∷ [])) ≡ certain b)
    → Covers (chance_or (chance_told meta) (formula_of (if round then hint ∷ hints.Not ∷ [] else hint ∷ []))) b
signed_covers meta hint true b leaf fits exact =
    subst (λ o. Covers (chance_or (chance_told meta) o) b) (sym (turned_formula hint leaf)) (turned_covers (chance_told meta hint) b (told_covers meta hint (not b) fits
    (λ r known. turned_back (chance_at meta hint) b (ap (chance_or (chance_at meta)) (sym (turned_formula hint leaf)) ∙ exact r known))))
signed_covers meta hint false b leaf fits exact =
    subst (λ o. Covers (chance_or (chance_told meta) o) b) (sym (leaf_formula hint leaf)) (told_covers meta hint b fits
    (λ r known. ap (chance_or (chance_at meta)) (sym (leaf_formula hint leaf)) ∙ exact r known))

covers : (found : Bool) (row : Row) (depth : ℕ) → fits_sums row.rec.meta ≡ true → (c : Condition)
    → Covers (chance_or (chance_told row.rec.meta) (formula_of (condition_hints c))) (condition_holds found c (seen_row row depth))
covers found row depth fits c =
    signed_covers row.rec.meta (leaf_of c) (is_turned c && tells (leaf_of c)) (condition_holds found c (seen_row row depth)) (condition_leaf c) fits (condition_known found c row depth)

-- ---- the whole SELECT

in_whole : (table : Table) (condition : Option (Formula Condition)) → AreWhole (hints_in table condition)
unfolding formula_of
in_whole Entries None = (negation (test (hints.Kind kinds.Dir)), refl)
in_whole Summary None = (test (hints.Kind kinds.Dir), refl)
in_whole Rows None = (test (hints.SizeIn 0 18446744073709551615), refl)
in_whole Entries (Some f) =
    (both (joined (λ c. (conditions_whole c).0) f) (negation (test (hints.Kind kinds.Dir))), ap only_one (postfix_read condition_hints conditions_whole f (hints.Kind kinds.Dir ∷ hints.Not ∷ hints.And ∷ []) []))
in_whole Summary (Some f) =
    (both (joined (λ c. (conditions_whole c).0) f) (test (hints.Kind kinds.Dir)), ap only_one (postfix_read condition_hints conditions_whole f (hints.Kind kinds.Dir ∷ hints.And ∷ []) []))
in_whole Rows (Some f) = postfix_whole condition_hints conditions_whole f

pub select_whole : (select : Select) → AreWhole (select_hints select)
select_whole select = in_whole select.table select.condition

dir_letter : (kind : KindOf) → (100 == kind_letter kind) ≡ is_dir kind
dir_letter kinds.Dir = refl
dir_letter _ = refl

every_size : (n : ℕ) → nat_lt n (2 ^ 64) ≡ true → is_in 0 18446744073709551615 n ≡ true
every_size n fits = grind (arith, nat_tests)

condition_covers : (f : Formula Condition) (found : Bool) (row : Row) (depth : ℕ) → fits_sums row.rec.meta ≡ true → truth_of (λ c. condition_holds found c (seen_row row depth)) f ≡ true
    → (chance (chance_told row.rec.meta) (joined (λ c. (conditions_whole c).0) f)).holds ≡ true
condition_covers f found row depth fits h =
    (postfix_covers condition_hints conditions_whole (chance_told row.rec.meta) (λ c. condition_holds found c (seen_row row depth)) (covers found row depth fits) f).holds h

in_told : (table : Table) (condition : Option (Formula Condition)) (found : Bool) (row : Row) (depth : ℕ) → fits_sums row.rec.meta ≡ true
    → is_in_table table row.rec.meta ≡ true → holds_with found condition (seen_row row depth) ≡ true → (chance_or (chance_told row.rec.meta) (formula_of (hints_in table condition))).holds ≡ true
unfolding formula_of
in_told Entries None found row depth fits at h = ap not (dir_letter row.rec.meta.kind) ∙ at
in_told Summary None found row depth fits at h = dir_letter row.rec.meta.kind ∙ at
in_told Rows None found row depth fits at h =
    (told_covers row.rec.meta (hints.SizeIn 0 18446744073709551615) true fits (λ r known. ap certain (every_size row.rec.meta.size (r.size refl)))).holds refl
in_told Entries (Some f) found row depth fits at h =
    ap (λ o. (chance_or (chance_told row.rec.meta) (only_one o)).holds) (postfix_read condition_hints conditions_whole f (hints.Kind kinds.Dir ∷ hints.Not ∷ hints.And ∷ []) [])
    ∙ ap₂ (λ (a : Bool) (b : Bool). a && b) (condition_covers f found row depth fits h) (ap not (dir_letter row.rec.meta.kind) ∙ at)
in_told Summary (Some f) found row depth fits at h =
    ap (λ o. (chance_or (chance_told row.rec.meta) (only_one o)).holds) (postfix_read condition_hints conditions_whole f (hints.Kind kinds.Dir ∷ hints.And ∷ []) [])
    ∙ ap₂ (λ (a : Bool) (b : Bool). a && b) (condition_covers f found row depth fits h) (dir_letter row.rec.meta.kind ∙ at)
in_told Rows (Some f) found row depth fits at h =
    ap (λ o. (chance_or (chance_told row.rec.meta) o).holds) (postfix_formula condition_hints conditions_whole f) ∙ condition_covers f found row depth fits h

-- the hints of a SELECT may hold of each row of which it is true
pub select_may_hold : (select : Select) (row : Row) (depth : ℕ) → select_holds select row depth ≡ true → may_hold (select_hints select) row ≡ true
select_may_hold select row depth holds =
    let found = regexp_holds select.regexp (seen_row row depth) in
    let parts = and_parts (is_in_table select.table row.rec.meta) (holds_with found select.condition (seen_row row depth)) holds in
    may_hold_within (select_hints select) row (λ fits. in_told select.table select.condition found row depth fits parts.0 parts.1)
