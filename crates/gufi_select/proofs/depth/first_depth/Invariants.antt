use Rattle.std.proofs.Common.{◌≡◌, ◌-◌}
use Rattle.gufi_base.specs.Limits.{max_components}
use Rattle.gufi_formula.specs.Formulas.{holds}
use Rattle.gufi_select.specs.Depths.{reaches, first_failure}
use Rattle.gufi_select.proofs.depth.first_depth.Given as goal

abbrev pub invariant-loop-than : goal.invariant-loop-than
invariant-loop-than l =
    first_failure (λ deep. holds (reaches deep) l.condition) 0 max_components ≡ first_failure (λ deep. holds (reaches deep) l.condition) l.than (max_components - l.than)
