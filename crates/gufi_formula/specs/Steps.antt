-- A formula as its first test and the steps behind it, which are taken from the left with one truth in hand.
use Rattle.std.specs.Prelude.{◌≡◌, ℕ, zero, suc, Bool, true, false, not, List, [], ◌∷◌, ◌++◌, length}
use Rattle.gufi_formula.specs.Formulas.{Formula, test, negation, both, either}
use Rattle.gufi_formula.specs.declared.step.Step.{Step}
use Rattle.gufi_formula.specs.declared.step.Step.TheVariants.{Invert, IfTrue, IfFalse, BothEnd, EitherEnd}

abbrev pub first_of : {A : Type 0} → Formula A → A
first_of (test a) = a
first_of (negation f) = first_of f
first_of (both f g) = first_of f
first_of (either f g) = first_of f

-- "and" passes over the steps of its second part where the first is false, "or" where it is true; each has a mark at its end
abbrev pub steps_of : {A : Type 0} → Formula A → List (Step A)
steps_of (test a) = []
steps_of (negation f) = steps_of f ++ Invert ∷ []
steps_of (both f g) = steps_of f ++ (IfTrue (first_of g) (length (steps_of g)) ∷ (steps_of g ++ BothEnd ∷ []))
steps_of (either f g) = steps_of f ++ (IfFalse (first_of g) (length (steps_of g)) ∷ (steps_of g ++ EitherEnd ∷ []))

-- the step keeps what holds so far from being turned round
abbrev pub is_no_inversion : {A : Type 0} → Step A → Bool
is_no_inversion Invert = false
is_no_inversion step = true

-- the truth in the end; the number says how many steps are passed over
abbrev pub run : {A : Type 0} → (A → Bool) → Bool → ℕ → List (Step A) → Bool
run truth now skip [] = now
run truth now (suc skip) (step ∷ rest) = run truth now skip rest
run truth now zero (Invert ∷ rest) = run truth (not now) 0 rest
run truth now zero (IfTrue a n ∷ rest) = elim now [ true ↦ run truth (truth a) 0 rest | false ↦ run truth false n rest ]
run truth now zero (IfFalse a n ∷ rest) = elim now [ true ↦ run truth true n rest | false ↦ run truth (truth a) 0 rest ]
run truth now zero (BothEnd ∷ rest) = run truth now 0 rest
run truth now zero (EitherEnd ∷ rest) = run truth now 0 rest

-- the formulas that steps leave, the newest first
abbrev pub with_step : {A : Type 0} → Step A → List (Formula A) → List (Formula A)
with_step (IfTrue a n) stack = test a ∷ stack
with_step (IfFalse a n) stack = test a ∷ stack
with_step Invert (f ∷ stack) = negation f ∷ stack
with_step BothEnd (g ∷ f ∷ stack) = both f g ∷ stack
with_step EitherEnd (g ∷ f ∷ stack) = either f g ∷ stack
with_step step stack = stack

abbrev pub with_steps : {A : Type 0} → List (Step A) → List (Formula A) → List (Formula A)
with_steps [] stack = stack
with_steps (step ∷ rest) stack = with_steps rest (with_step step stack)

abbrev pub newest_or : {A : Type 0} → Formula A → List (Formula A) → Formula A
newest_or d [] = d
newest_or d (f ∷ rest) = f

-- the formula whose first test and steps these are
abbrev pub formula_in : {A : Type 0} → A → List (Step A) → Formula A
formula_in first steps = newest_or (test first) (with_steps steps (test first ∷ []))

-- they are those of a formula, and of no other
pub record IsKept {A : Type 0} (first : A) (steps : List (Step A)) : Type 0 where
  pub test_is : first_of (formula_in first steps) ≡ first
  pub steps_are : steps_of (formula_in first steps) ≡ steps
