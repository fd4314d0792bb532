use Rattle.std.proofs.Common.{◌≡◌, drop}
use Rattle.gufi_core.specs.Steps.{run_from, run_events}
use Rattle.gufi_core.proofs.run.run_events.Given as goal

abbrev pub invariant-loop-at : goal.invariant-loop-at
invariant-loop-at l = run_events l.callers l.shapes l.events ≡ run_from l.shapes l.at (drop l.at l.events) l.machine
