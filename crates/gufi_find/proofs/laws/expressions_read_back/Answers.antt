use Rattle.gufi_find.proofs.ReadBack.{expression_back}
use Rattle.gufi_find.proofs.laws.expressions_read_back.Goals as goal

pub returns : goal.returns
returns c = expression_back
