-- How formulas are built from the left: a level is what stands open since the last opening parenthesis, the terms joined by
-- "or", those joined by "and" behind them, and how many "not" wait for their term.
use Rattle.std.specs.Prelude.{ℕ, zero, suc, ◌+◌, List, [], ◌∷◌, length, sum_by, Option, Some, None, option_map}
use Rattle.gufi_formula.specs.Formulas.{Formula, negation, both, either}
use Rattle.gufi_formula.specs.declared.level.Level.{Level}

abbrev pub new_level : {A : Type 0} → Level A
new_level = record { ors = None; ands = None; nots = 0 }

abbrev pub joined_formula : {A : Type 0} → (Formula A → Formula A → Formula A) → Option (Formula A) → Formula A → Formula A
joined_formula make None f = f
joined_formula make (Some front) f = make front f

abbrev pub negated_formula : {A : Type 0} → ℕ → Formula A → Formula A
negated_formula zero f = f
negated_formula (suc n) f = negation (negated_formula n f)

-- a term is complete
abbrev pub with_term : {A : Type 0} → Formula A → Level A → Level A
with_term f level = record { ors = level.ors; ands = Some (joined_formula both level.ands (negated_formula level.nots f)); nots = 0 }

-- "or"
abbrev pub with_or : {A : Type 0} → Level A → Level A
with_or level = record { ors = option_map (joined_formula either level.ors) level.ands; ands = None; nots = 0 }

-- "not"
abbrev pub with_not : {A : Type 0} → Level A → Level A
with_not level = record { ors = level.ors; ands = level.ands; nots = level.nots + 1 }

-- the formula of a level that ends behind a term, which has one
abbrev pub level_formula : {A : Type 0} → Level A → Option (Formula A)
level_formula level = option_map (joined_formula either level.ors) level.ands

-- a closing parenthesis completes a term of the level outside
abbrev pub closed_into : {A : Type 0} → Option (Formula A) → Level A → Level A
closed_into None level = level
closed_into (Some f) level = with_term f level

-- how many parentheses and "not" are open
abbrev pub open_ones : {A : Type 0} → Level A → List (Level A) → ℕ
open_ones level outer = length outer + level.nots + sum_by (λ l. l.nots) outer

-- the innermost level, and those around it, the innermost first
pub record Levels (A : Type 0) : Type 0 where
  pub level : Level A
  pub outer : List (Level A)

abbrev pub first_levels : {A : Type 0} → Levels A
first_levels = record { level = new_level; outer = [] }

-- a closing parenthesis, where one is open
abbrev pub closed_levels : {A : Type 0} → Level A → List (Level A) → Option (Levels A)
closed_levels inner [] = None
closed_levels inner (level ∷ outer) = Some (record { level = closed_into (level_formula inner) level; outer = outer })
