use Rattle.std.proofs.Common.{◌≡◌, ◌++◌, take}
use Rattle.std.specs.List.{flat_map}
use Rattle.gufi_formula.specs.StepHints.{step_hints}
use Rattle.gufi_formula.proofs.hinted.put_steps.Given as goal

abbrev pub invariant-steps : goal.invariant-steps
invariant-steps g l = l.out.items ≡ l.initial.out.items ++ flat_map (step_hints g.T.Hinted.hints) (take l.step-index l.steps)
