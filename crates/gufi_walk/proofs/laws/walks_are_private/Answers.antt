use Rattle.gufi_walk.proofs.Private.{alike_steps, alike_visits}
use Rattle.gufi_walk.proofs.laws.walks_are_private.Goals as goal

pub returns : goal.returns
returns c = record { steps = alike_steps; visits = alike_visits }
