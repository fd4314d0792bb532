use Rattle.std.proofs.Common.{◌≡◌, true, take}
use Rattle.std.specs.List.{list_all}
use Rattle.gufi_formula.specs.Steps.{is_no_inversion}
use Rattle.gufi_formula.proofs.step.has_no_inversion.Given as goal

abbrev pub invariant-loop-step : goal.invariant-loop-step
invariant-loop-step g l = list_all is_no_inversion (take l.step-index l.steps) ≡ true
