use Rattle.std.proofs.Common.{◌≡◌, length}
use Rattle.gufi_formula.specs.Steps.{run}
use Rattle.gufi_formula.proofs.step.run.Given as goal

abbrev pub invariant-steps : goal.invariant-steps
invariant-steps g l = run (g.V.Valuation.truth l.valuation) l.first 0 l.steps ≡ run (g.V.Valuation.truth l.valuation) l.now 0 l.rest

abbrev pub decreases-steps : goal.decreases-steps
decreases-steps g l = length l.rest
