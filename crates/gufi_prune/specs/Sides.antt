-- Both sides of formulas, as they wait for their signs.
use Rattle.std.specs.Prelude.{◌≡◌, List, ◌∷◌, map, reverse, true, false}
use Rattle.gufi_base.specs.declared.hint.Hint.{Hint}
use Rattle.gufi_formula.specs.Formulas.{Formula}
use Rattle.gufi_prune.specs.declared.sides.Sides.{Sides}
use Rattle.gufi_prune.specs.Normal.{normal}

abbrev pub sides_of : Formula Hint → Sides
sides_of f = record { holds = normal true f; fails = normal false f }

-- the newest is the last
abbrev pub AreSidesOf : List Sides → List (Formula Hint) → Type 0
AreSidesOf sides stack = reverse sides ≡ map sides_of stack

-- a formula stands there, or two
abbrev pub HasOne : List Sides → Type 0
HasOne sides = (f : Formula Hint) × (stack : List (Formula Hint)) × AreSidesOf sides (f ∷ stack)

abbrev pub HasTwo : List Sides → Type 0
HasTwo sides = (f : Formula Hint) × (g : Formula Hint) × (stack : List (Formula Hint)) × AreSidesOf sides (g ∷ f ∷ stack)
