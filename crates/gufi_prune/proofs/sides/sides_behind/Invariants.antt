use Rattle.std.proofs.Common.{◌≡◌, List, [], Some, drop}
use Rattle.gufi_base.specs.declared.hint.Hint.{Hint as SeenHint}
use Rattle.gufi_formula.specs.Formulas.{Formula as Tree}
use Rattle.gufi_formula.specs.Hints.{hints_behind}
use Rattle.gufi_prune.specs.Sides.{AreSidesOf}
use Rattle.gufi_prune.proofs.sides.sides_behind.Given as goal

abbrev pub invariant-hints : goal.invariant-hints
invariant-hints l = (stack : List (Tree SeenHint)) × AreSidesOf l.stack.items stack × (hints_behind (drop l.hint-index l.hints) (Some stack) ≡ hints_behind l.hints (Some []))
