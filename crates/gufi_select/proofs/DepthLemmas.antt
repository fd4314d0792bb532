-- No row that a SELECT chooses lies deeper than its bound.
use Rattle.std.proofs.Common.{◌≡◌, ◌∙◌, ◌⊎◌, inl, inr, ℕ, zero, suc, ◌+◌, ◌<◌, ◌≤◌, Bool, true, false, cond, refl, sym, ap, subst, ℤ, pos, arith}
use Rattle.std.specs.Prelude.{int_lt, not, ◌&&◌, ◌||◌, Option, Some, None, option_and_then}
use Rattle.std.specs.declared.cmp.Ordering.{Ordering}
use Rattle.std.specs.declared.cmp.Ordering.TheVariants as orders
use Rattle.std.specs.Ordering.{int_cmp, is_lt, is_le, is_eq, ordering_reverse}
use Rattle.std.proofs.lemmas.Cmp.{int_cmp_total}
use Rattle.std.proofs.lemmas.Bool.{cases_order, lt-ltb, false≢true, and_parts, and_from}
use Rattle.gufi_base.specs.declared.record.Row.{Row}
use Rattle.gufi_base.specs.Limits.{max_components}
use Rattle.gufi_formula.specs.Formulas.{Formula, test, negation, both, either, holds, is_positive}
use Rattle.gufi_select.specs.declared.column.Column.TheVariants as columns
use Rattle.gufi_select.specs.declared.operator.Operator.TheVariants as operators
use Rattle.gufi_select.specs.declared.condition.Value.TheVariants.{Number}
use Rattle.gufi_select.specs.declared.condition.Condition.{Condition}
use Rattle.gufi_select.specs.declared.condition.Condition.TheVariants.{Compares}
use Rattle.gufi_select.specs.Columns.{Seen, Select, seen_row, condition_holds, holds_with, regexp_holds, select_holds}
use Rattle.gufi_select.specs.Depths.{reaches, first_failure, condition_depth, select_depth}

before : (a b : ℕ) → a < b → int_cmp (pos a) (pos b) ≡ orders.Less
before a b lt = ap (λ (t : Bool). cond t orders.Less (cond (int_lt (pos b) (pos a)) orders.Greater orders.Equal)) (lt-ltb a b lt)

-- what stands before a number stands before all that are no less
before_equal : (a b : ℕ) (n : ℤ) → a < b → int_cmp (pos b) n ≡ orders.Equal → int_cmp (pos a) n ≡ orders.Less
before_equal a b n lt same =
    int_cmp_total.antisymm (pos a) n ∙ ap ordering_reverse (sym (int_cmp_total.congr (pos b) n (pos a) same)) ∙ sym (int_cmp_total.antisymm (pos a) (pos b)) ∙ before a b lt

equal_order : (o : Ordering) → is_eq o ≡ true → o ≡ orders.Equal
equal_order orders.Less e = absurd (false≢true e)
equal_order orders.Equal e = refl
equal_order orders.Greater e = absurd (false≢true e)

less_order : (o : Ordering) → is_lt o ≡ true → o ≡ orders.Less
less_order orders.Less e = refl
less_order orders.Equal e = absurd (false≢true e)
less_order orders.Greater e = absurd (false≢true e)

-- what is true of a row may be true of one that lies deeper than what lies above it
reached : (deep : ℕ) (found : Bool) (s : Seen) → deep < s.depth → (c : Condition) → condition_holds found c s ≡ true → reaches deep c ≡ true
reached deep found s lt (Compares columns.Level operators.Equal (Number n)) h =
    ap is_lt (before_equal deep s.depth n lt (equal_order (int_cmp (pos s.depth) n) h))
reached deep found s lt (Compares columns.Level operators.AtMost (Number n)) h = by (int_cmp (pos s.depth) n) refl h where
  by : (o : Ordering) → int_cmp (pos s.depth) n ≡ o → is_le o ≡ true → is_lt (int_cmp (pos deep) n) ≡ true
  by orders.Less e h = ap is_lt (int_cmp_total.trans (pos deep) (pos s.depth) n (before deep s.depth lt) e)
  by orders.Equal e h = ap is_lt (before_equal deep s.depth n lt e)
  by orders.Greater e h = absurd (false≢true h)
reached deep found s lt (Compares columns.Level operators.Below (Number n)) h = by (cases_order (deep + 1) s.depth) where
  less : int_cmp (pos s.depth) n ≡ orders.Less
  less = less_order (int_cmp (pos s.depth) n) h

  by : (deep + 1 ≡ s.depth) ⊎ ((deep + 1 < s.depth) ⊎ (s.depth < deep + 1)) → is_lt (int_cmp (pos (deep + 1)) n) ≡ true
  by (inl e) = ap is_lt (ap (λ k. int_cmp (pos k) n) e ∙ less)
  by (inr (inl l)) = ap is_lt (int_cmp_total.trans (pos (deep + 1)) (pos s.depth) n (before (deep + 1) s.depth l) less)
  by (inr (inr g)) = absurd (omega (arith, lt, g))
reached deep found s lt _ h = refl

-- where each test that holds passes, a formula without a negation that holds passes
passes : {A : Type 0} (p q : A → Bool) → ((a : A) → p a ≡ true → q a ≡ true) → (f : Formula A) → is_positive f ≡ true → holds p f ≡ true → holds q f ≡ true
passes p q each (test a) positive h = each a h
passes p q each (negation f) positive h = absurd (false≢true positive)
passes p q each (both f g) positive h =
    let parts = and_parts (is_positive f) (is_positive g) positive in
    let two = and_parts (holds p f) (holds p g) h in
    and_from (holds q f) (holds q g) (passes p q each f parts.0 two.0) (passes p q each g parts.1 two.1)
passes p q each (either f g) positive h =
    let parts = and_parts (is_positive f) (is_positive g) positive in
    by (holds p f) refl h (passes p q each f parts.0) (passes p q each g parts.1) where
      by : (b : Bool) → holds p f ≡ b → b || holds p g ≡ true → (holds p f ≡ true → holds q f ≡ true) → (holds p g ≡ true → holds q g ≡ true) → holds q f || holds q g ≡ true
      by true e h left right = ap (λ b. b || holds q g) (left e)
      by false e h left right = last (holds q f) (right h) where
        last : (b : Bool) → holds q g ≡ true → b || holds q g ≡ true
        last true h = refl
        last false h = h

-- one number after another is tried
pub failure_next : (pass : ℕ → Bool) (at count : ℕ) → pass at ≡ true → first_failure pass at (suc count) ≡ first_failure pass (at + 1) count
unfolding first_failure
failure_next pass at count e = ap (λ b. cond b (first_failure pass (at + 1) count) (Some at)) e

pub failure_here : (pass : ℕ → Bool) (at count : ℕ) → pass at ≡ false → first_failure pass at (suc count) ≡ Some at
unfolding first_failure
failure_here pass at count e = ap (λ b. cond b (first_failure pass (at + 1) count) (Some at)) e

pub no_failure : (pass : ℕ → Bool) (at : ℕ) → first_failure pass at 0 ≡ None
unfolding first_failure
no_failure pass at = refl

-- the test fails where it fails first
failure_fails : (pass : ℕ → Bool) (at count found : ℕ) → first_failure pass at count ≡ Some found → pass found ≡ false
unfolding first_failure
failure_fails pass at zero found e = absurd (cc e)
failure_fails pass at (suc count) found e = by (pass at) refl e (failure_fails pass (at + 1) count found) where
  by : (b : Bool) → pass at ≡ b → cond b (first_failure pass (at + 1) count) (Some at) ≡ Some found → (first_failure pass (at + 1) count ≡ Some found → pass found ≡ false) → pass found ≡ false
  by true h e more = more e
  by false h e more = subst (λ k. pass k ≡ false) (cc e) h

module _ (s : Select) (row : Row) (depth : ℕ) (f : Formula Condition) (found : Bool) (true_of : holds (λ c. condition_holds found c (seen_row row depth)) f ≡ true) where
  within : (most : ℕ) → is_positive f ≡ true → holds (reaches most) f ≡ false → depth ≤ most
  within most positive fails = by (cases_order depth most) where
    by : (depth ≡ most) ⊎ ((depth < most) ⊎ (most < depth)) → depth ≤ most
    by (inl e) = omega (arith, e)
    by (inr (inl l)) = omega (arith, l)
    by (inr (inr g)) =
        let passed = passes (λ c. condition_holds found c (seen_row row depth)) (reaches most) (reached most found (seen_row row depth) g) f positive true_of in
        absurd (false≢true (sym fails ∙ passed))

  bounded : (most : ℕ) → condition_depth f ≡ Some most → depth ≤ most
  bounded most is = by (is_positive f && not (holds (reaches max_components) f)) refl is where
    by : (b : Bool) → is_positive f && not (holds (reaches max_components) f) ≡ b → cond b (first_failure (λ deep. holds (reaches deep) f) 0 max_components) None ≡ Some most → depth ≤ most
    by true e found_at = within most (and_parts (is_positive f) _ e).0 (failure_fails (λ deep. holds (reaches deep) f) 0 max_components most found_at)
    by false e found_at = absurd (cc found_at)

pub no_deeper : (s : Select) (most : ℕ) → select_depth s ≡ Some most → (row : Row) (depth : ℕ) → select_holds s row depth ≡ true → depth ≤ most
no_deeper s most is row depth h = by s.condition is (and_parts _ _ h).1 where
  by : (condition : Option (Formula Condition)) → option_and_then condition_depth condition ≡ Some most → holds_with (regexp_holds s.regexp (seen_row row depth)) condition (seen_row row depth) ≡ true → depth ≤ most
  by None is h = absurd (cc is)
  by (Some f) is h = bounded s row depth f (regexp_holds s.regexp (seen_row row depth)) h most is
