use Rattle.gufi_core.proofs.Ended.{took_owed}
use Rattle.gufi_core.proofs.laws.ended_jobs_took_owed.Goals as goal

pub returns : goal.returns
returns c = took_owed
