use Rattle.std.proofs.Common.{◌≡◌, arith}
use Rattle.std.specs.Prelude.{Ok}
use Rattle.std.proofs.lemmas.Grind.{common_steps}
use Rattle.gufi_core.specs.Steps.{run_events}
use Rattle.gufi_core.proofs.Runs.{runs_hold}
use Rattle.gufi_core.proofs.run.run_events.Goals as goal

pub returns-clause-holds : goal.returns-clause-holds
returns-clause-holds c =
    let reached : run_events c.args.callers c.args.shapes.now c.args.events.now ≡ Ok c.in_ok-into_core.field-0 = grind (arith, common_steps) in
    runs_hold c.args.callers c.args.shapes.now c.args.events.now c.in_ok-into_core.field-0 reached
