-- Formulas without negations hold where the formula may.
use Rattle.std.proofs.Common.{◌≡◌, Bool, true, false, refl, sym, ap, ap₂, ◌∙◌, List}
use Rattle.std.specs.Prelude.{◌&&◌, ◌||◌, Option}
use Rattle.gufi_base.specs.declared.hint.Hint.{Hint}
use Rattle.gufi_formula.specs.Formulas.{Formula, test, negation, both, either, holds}
use Rattle.gufi_formula.specs.Hints.{Chance, chance, chance_or, formula_of}
use Rattle.gufi_prune.specs.declared.leaf.Leaf.{Leaf}
use Rattle.gufi_prune.specs.Normal.{asked_of, normal, IsNormal}

pub normal-holds : (leaf : Hint → Chance) (wanted : Bool) (f : Formula Hint) → holds (λ (l : Leaf). asked_of l.wanted (leaf l.hint)) (normal wanted f) ≡ asked_of wanted (chance leaf f)
normal-holds leaf wanted (test hint) = refl
normal-holds leaf true (negation f) = normal-holds leaf false f
normal-holds leaf false (negation f) = normal-holds leaf true f
normal-holds leaf true (both f g) = ap₂ (λ (a : Bool) (b : Bool). a && b) (normal-holds leaf true f) (normal-holds leaf true g)
normal-holds leaf false (both f g) = ap₂ (λ (a : Bool) (b : Bool). a || b) (normal-holds leaf false f) (normal-holds leaf false g)
normal-holds leaf true (either f g) = ap₂ (λ (a : Bool) (b : Bool). a || b) (normal-holds leaf true f) (normal-holds leaf true g)
normal-holds leaf false (either f g) = ap₂ (λ (a : Bool) (b : Bool). a && b) (normal-holds leaf false f) (normal-holds leaf false g)

pub holds_of_hints : (leaf : Hint → Chance) (list : List Hint) (formula : Formula Leaf) → IsNormal list formula
    → holds (λ (l : Leaf). asked_of l.wanted (leaf l.hint)) formula ≡ (chance_or leaf (formula_of list)).holds
holds_of_hints leaf list formula is =
    ap (holds (λ (l : Leaf). asked_of l.wanted (leaf l.hint))) is.2 ∙ normal-holds leaf true is.0 ∙ sym (ap (λ (f : Option (Formula Hint)). (chance_or leaf f).holds) is.1)
