use Rattle.std.proofs.Common.{take}
use Rattle.gufi_phases.proofs.Ascending.{AreTold}
use Rattle.gufi_phases.proofs.phase.are_ascending.Given as goal

abbrev pub invariant-loop-lane : goal.invariant-loop-lane
invariant-loop-lane l = AreTold l.last (take l.lane-index l.lanes)
