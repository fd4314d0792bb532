use Rattle.gufi_top.proofs.GenLemmas.{gen_never_refused}
use Rattle.gufi_top.proofs.laws.gen_is_never_refused.Goals as goal

pub returns : goal.returns
returns c = gen_never_refused c.generated_traces_are_read.ensures.read c.generated_traces_are_read.ensures.listed
