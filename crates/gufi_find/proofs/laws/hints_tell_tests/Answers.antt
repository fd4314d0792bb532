use Rattle.gufi_find.proofs.HintLemmas.{test_exact}
use Rattle.gufi_find.proofs.laws.hints_tell_tests.Goals as goal

pub returns : goal.returns
returns c = test_exact
