use Rattle.gufi_core.proofs.Balance.{keeps_balance}
use Rattle.gufi_core.proofs.laws.steps_keep_balance.Goals as goal

pub returns : goal.returns
returns c = keeps_balance
