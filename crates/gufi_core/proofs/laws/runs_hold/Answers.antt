use Rattle.gufi_core.proofs.Runs.{runs_hold}
use Rattle.gufi_core.proofs.laws.runs_hold.Goals as goal

pub returns : goal.returns
returns c = runs_hold
