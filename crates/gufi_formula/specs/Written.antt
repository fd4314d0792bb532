-- How a formula is written in words, by the ranks of the grammar.
use Rattle.std.specs.Prelude.{ℕ, suc, ◌+◌, Bool, true, false, List, [], ◌∷◌, ◌++◌, max}
use Rattle.gufi_formula.specs.Formulas.{Formula, test, negation, both, either}

-- The least rank that stands at a place without parentheses: "or" is the lowest, "and" is above it, and "not" and tests are above both.
pub data Rank : Type 0 where
  of_or : Rank
  of_and : Rank
  of_not : Rank

abbrev pub is_above_or : Rank → Bool
is_above_or of_or = false
is_above_or of_and = true
is_above_or of_not = true

abbrev pub is_above_and : Rank → Bool
is_above_and of_or = false
is_above_and of_and = false
is_above_and of_not = true

-- the words of a language for the signs of the grammar, and for each test
pub record Spelling (A W : Type 0) : Type 0 where
  pub test_words : A → List W
  pub open_word : W
  pub close_word : W
  pub not_word : W
  pub and_word : W
  pub or_word : W

-- parentheses stand only around what has a lower rank than its place
abbrev pub enclosed : {A W : Type 0} → Spelling A W → Bool → List W → List W
enclosed spelling false words = words
enclosed spelling true words = spelling.open_word ∷ (words ++ spelling.close_word ∷ [])

-- "and" and "or" join from the left, so what stands on their right has a higher rank than they have
abbrev pub written : {A W : Type 0} → Spelling A W → Formula A → Rank → List W
written spelling (test a) rank = spelling.test_words a
written spelling (negation f) rank = spelling.not_word ∷ written spelling f of_not
written spelling (both f g) rank = enclosed spelling (is_above_and rank) (written spelling f of_and ++ spelling.and_word ∷ written spelling g of_not)
written spelling (either f g) rank = enclosed spelling (is_above_or rank) (written spelling f of_or ++ spelling.or_word ∷ written spelling g of_and)

abbrev pub written_formula : {A W : Type 0} → Spelling A W → Formula A → List W
written_formula spelling f = written spelling f of_or

-- how many parentheses and "not" are open at once, at most
abbrev pub one_if : Bool → ℕ
one_if false = 0
one_if true = 1

abbrev pub nesting : {A : Type 0} → Formula A → Rank → ℕ
nesting (test a) rank = 0
nesting (negation f) rank = suc (nesting f of_not)
nesting (both f g) rank = one_if (is_above_and rank) + max (nesting f of_and) (nesting g of_not)
nesting (either f g) rank = one_if (is_above_or rank) + max (nesting f of_or) (nesting g of_and)

abbrev pub formula_nesting : {A : Type 0} → Formula A → ℕ
formula_nesting f = nesting f of_or

-- what holds of each test
abbrev pub EachTest : {A : Type 0} → (A → Type 0) → Formula A → Type 0
EachTest P (test a) = P a
EachTest P (negation f) = EachTest P f
EachTest P (both f g) = EachTest P f × EachTest P g
EachTest P (either f g) = EachTest P f × EachTest P g
