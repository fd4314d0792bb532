use Rattle.gufi_select.proofs.HintLemmas.{condition_exact}
use Rattle.gufi_select.proofs.laws.hints_tell_conditions.Goals as goal

pub returns : goal.returns
returns c = condition_exact
