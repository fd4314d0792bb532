-- Formulas of hints without negations, where each hint says whether it is to hold or to fail.
use Rattle.std.specs.Prelude.{◌≡◌, Bool, true, false, not, List, Some}
use Rattle.gufi_base.specs.declared.hint.Hint.{Hint}
use Rattle.gufi_formula.specs.Formulas.{Formula, test, negation, both, either}
use Rattle.gufi_formula.specs.Hints.{Chance, formula_of}
use Rattle.gufi_prune.specs.declared.leaf.Leaf.{Leaf}

abbrev pub asked_of : Bool → Chance → Bool
asked_of true chance = chance.holds
asked_of false chance = chance.fails

abbrev pub normal : Bool → Formula Hint → Formula Leaf
normal wanted (test hint) = test (record { hint = hint; wanted = wanted })
normal wanted (negation f) = normal (not wanted) f
normal true (both f g) = both (normal true f) (normal true g)
normal false (both f g) = either (normal false f) (normal false g)
normal true (either f g) = either (normal true f) (normal true g)
normal false (either f g) = both (normal false f) (normal false g)

-- it is the formula of the hints
abbrev pub IsNormal : List Hint → Formula Leaf → Type 0
IsNormal hints formula = (f : Formula Hint) × (formula_of hints ≡ Some f) × (formula ≡ normal true f)
