-- What is open.
use Rattle.std.proofs.Common.{◌≡◌, ℕ, suc, ◌+◌, ◌-◌, ◌≤◌, List, length, take, reverse, sym, ap, ◌∙◌, arith, leb, eqb, take_all, refl}
use Rattle.std.proofs.lemmas.List.{length-reverse}
use Rattle.std.proofs.lemmas.List.Sorted.{sum_by-IsPermutation, IsPermutation-reverse}
use Rattle.std.proofs.lemmas.Bool.Decides.{nat_tests}
use Rattle.std.specs.List.{sum_by}
use Rattle.gufi_formula.specs.Formulas.{Formula, negation}
use Rattle.gufi_formula.specs.declared.level.Level.{Level}
use Rattle.gufi_formula.specs.Levels.{negated_formula, open_ones}

none_left : (left a b s : ℕ) → left ≡ 64 - a - b - s → eqb left 0 ≡ leb 64 (a + b + s)
none_left left a b s e = grind (arith, nat_tests)

module _ {A : Type 0} where
  pub negated_more : (n : ℕ) (f : Formula A) → negated_formula (n + 1) f ≡ negation (negated_formula n f)
  negated_more n f = let more : n + 1 ≡ suc n = omega arith in rw more refl

  -- how many constructs are open, whatever the order of the levels
  open_all : (level : Level A) (outer : List (Level A)) → open_ones level (reverse outer) ≡ length outer + level.nots + sum_by (λ l. l.nots) outer
  open_all level outer =
      ap (λ n. n + level.nots + sum_by (λ (l : Level A). l.nots) (reverse outer)) (length-reverse outer)
      ∙ ap (λ n. length outer + level.nots + n) (sum_by-IsPermutation (λ (l : Level A). l.nots) outer (reverse outer) (IsPermutation-reverse outer))

  pub full_at : (level : Level A) (outer : List (Level A)) (left i : ℕ) → length outer ≤ i → left ≡ 64 - length outer - level.nots - sum_by (λ l. l.nots) (take i outer)
      → eqb left 0 ≡ leb 64 (open_ones level (reverse outer))
  full_at level outer left i past e =
      none_left left (length outer) level.nots (sum_by (λ l. l.nots) outer) (e ∙ ap (λ l. 64 - length outer - level.nots - sum_by (λ (l : Level A). l.nots) l) (take_all i outer past))
      ∙ ap (leb 64) (sym (open_all level outer))
