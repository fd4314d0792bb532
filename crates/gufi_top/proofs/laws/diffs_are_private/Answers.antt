use Rattle.gufi_top.proofs.DiffLemmas.{diffs_private}
use Rattle.gufi_top.proofs.laws.diffs_are_private.Goals as goal

pub returns : goal.returns
returns c = diffs_private
