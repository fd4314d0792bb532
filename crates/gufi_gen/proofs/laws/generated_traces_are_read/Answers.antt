use Rattle.gufi_gen.proofs.MadeBack.{generated_read, roots_listed}
use Rattle.gufi_gen.proofs.laws.generated_traces_are_read.Goals as goal

pub returns : goal.returns
returns c = record { read = generated_read; listed = roots_listed }
