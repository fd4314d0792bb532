use Rattle.gufi_top.proofs.DiffLemmas.{diff_writes}
use Rattle.gufi_top.proofs.laws.diff_writes_the_changes.Goals as goal

pub returns : goal.returns
returns c = diff_writes
