-- The truth of expressions at rows, in borrowed parts too.
use Rattle.std.proofs.Common.{◌≡◌, ◌∙◌, ℕ, ◌≤◌, List, ◌++◌, Bool, true, false, refl, sym, ap, subst, arith}
use Rattle.std.specs.Prelude.{Option, Some, None, ◌==◌, ◌&&◌, nat_le, is_none}
use Rattle.std.proofs.lemmas.Bool.{false≢true, and_parts, eqb-true, leb-true, le-leb}
use Rattle.gufi_base.specs.declared.record.Row.{Row}
use Rattle.gufi_base.specs.declared.record.RowRef.{RowRef}
use Rattle.gufi_base.specs.Rows.{Stands}
use Rattle.gufi_base.specs.Paths.{base_name}
use Rattle.gufi_base.proofs.CutParts.{path_text-parts}
use Rattle.gufi_formula.specs.Formulas.{Formula, holds, only_test, test}
use Rattle.gufi_find.specs.declared.test.Test.{Test}
use Rattle.gufi_find.specs.declared.test.Test.TheVariants.{Always, NameMatches}
use Rattle.gufi_glob.specs.Parts.{Part}
use Rattle.gufi_glob.specs.Patterns.{matches}
use Rattle.gufi_find.specs.Tests.{is_always, is_true, test_holds}
use Rattle.gufi_find.specs.Expressions.{Find, find_holds, is_at_most, is_wordless, has_no_words, last_byte}

pub truth_of_parts : (f : Formula Test) (ref : RowRef) (row : Row) → Stands ref row
    → holds (λ t. is_true t (ref.stem.now ++ ref.base.now) ref.base.now ref.meta.now) f ≡ holds (λ t. test_holds t row) f
truth_of_parts f ref row stands =
    rw (stands.stem, stands.base, stands.meta) (ap (λ path. holds (λ t. is_true t path (base_name row.path) row.rec.meta) f) (sym (path_text-parts row.path)))

-- that of one test alone is that test's
truth_alone : (f : Formula Test) (t : Test) (truth : Test → Bool) → only_test f ≡ Some t → truth t ≡ holds truth f
truth_alone (test own) t truth e = ap truth (grind (arith, e))
truth_alone _ t truth e = grind (arith, e)

pub truth_of_one : (f : Formula Test) (t : Test) (ref : RowRef) (row : Row) → only_test f ≡ Some t → Stands ref row
    → is_true t (ref.stem.now ++ ref.base.now) ref.base.now ref.meta.now ≡ holds (λ t. test_holds t row) f
truth_of_one f t ref row e stands =
    truth_alone f t (λ t. is_true t (ref.stem.now ++ ref.base.now) ref.base.now ref.meta.now) e ∙ truth_of_parts f ref row stands

-- ---- the last byte of a name

pub ends_with_name : (f : Find) (parts : List Part) (b : ℕ)
    → ((truth : Test → Bool) → truth (NameMatches parts) ≡ false → holds truth f.expr ≡ false)
    → ((text : List ℕ) → (last_byte text ≡ b → ⊥) → matches parts text ≡ false)
    → (row : Row) (depth : ℕ) → (last_byte (base_name row.path) ≡ b → ⊥) → find_holds f row depth ≡ false
ends_with_name f parts b hangs ends row depth apart = rw (hangs (λ t. test_holds t row) (ends (base_name row.path) apart)) refl

-- ---- no words

pub wordless_test : (f : Find) (t : Test) → only_test f.expr ≡ Some t → (is_always t && (f.least_depth == 0 && is_none f.most_depth)) ≡ has_no_words f
wordless_test f t e = rw e refl

pub wordless_none : (f : Find) → only_test f.expr ≡ None → false ≡ has_no_words f
wordless_none f e = rw e refl

wordless_true : (f : Formula Test) → is_wordless (only_test f) ≡ true → (row : Row) → holds (λ t. test_holds t row) f ≡ true
wordless_true (test Always) e row = refl
wordless_true _ e row = absurd (false≢true e)

no_bound : (most : Option ℕ) → is_none most ≡ true → (depth : ℕ) → is_at_most most depth ≡ true
no_bound None e depth = refl
no_bound (Some most) e depth = absurd (false≢true e)

-- an expression of no words is true of every row
pub every_row : (f : Find) → has_no_words f ≡ true → find_holds f ≡ (λ row depth. true)
every_row f e = λ i row depth. each row depth i where
  each : (row : Row) (depth : ℕ) → find_holds f row depth ≡ true
  each row depth =
      let parts = and_parts (is_wordless (only_test f.expr)) (f.least_depth == 0 && is_none f.most_depth) e in
      let bounds = and_parts (f.least_depth == 0) (is_none f.most_depth) parts.1 in
      let low : nat_le f.least_depth depth ≡ true = le-leb f.least_depth depth (omega (arith, eqb-true f.least_depth 0 bounds.0)) in
      rw (wordless_true f.expr parts.0 row, low, no_bound f.most_depth bounds.1 depth) refl

-- ---- depths

-- where it is true, the depth is within the greatest one
pub no_deeper : (f : Find) (deepest : Option ℕ) (most : ℕ) (row : Row) (depth : ℕ) → deepest ≡ f.most_depth → deepest ≡ Some most → find_holds f row depth ≡ true → depth ≤ most
no_deeper f deepest most row depth is bound holds =
    leb-true depth most (subst (λ o. is_at_most o depth ≡ true) (sym is ∙ bound) (and_parts _ _ holds).1)
