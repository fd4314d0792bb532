-- The hints of steps, in the order of the steps.
use Rattle.std.specs.Prelude.{List, [], ◌∷◌}
use Rattle.gufi_base.specs.declared.hint.Hint.{Hint}
use Rattle.gufi_base.specs.declared.hint.Hint.TheVariants.{Not, And, Or}
use Rattle.gufi_formula.specs.declared.step.Step.{Step}
use Rattle.gufi_formula.specs.declared.step.Step.TheVariants.{Invert, IfTrue, IfFalse, BothEnd, EitherEnd}

-- those of its test, or the sign whose operands end there
abbrev pub step_hints : {A : Type 0} → (A → List Hint) → Step A → List Hint
step_hints leaf Invert = Not ∷ []
step_hints leaf (IfTrue a n) = leaf a
step_hints leaf (IfFalse a n) = leaf a
step_hints leaf BothEnd = And ∷ []
step_hints leaf EitherEnd = Or ∷ []
