use Rattle.gufi_select.proofs.ReadBack.{condition_back}
use Rattle.gufi_select.proofs.laws.conditions_read_back.Goals as goal

pub returns : goal.returns
returns c = condition_back
