use Rattle.gufi_phases.specs.Keeping.{keeping_none}
use Rattle.gufi_phases.specs.Lanes.{KeepAs}
use Rattle.gufi_phases.proofs.keeping.new_lanes.Given as goal

abbrev pub invariant-loop-number : goal.invariant-loop-number
invariant-loop-number l = KeepAs (λ number. keeping_none l.capacity) l.lanes.items
