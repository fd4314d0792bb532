use Rattle.std.proofs.Common.{sym}
use Rattle.gufi_top.proofs.SessionLemmas.{acts_ok, acts_err}
use Rattle.gufi_top.proofs.session.read_acts.Goals as goal

pub returns-in-Ok-clause-acts : goal.returns-in-Ok-clause-acts
returns-in-Ok-clause-acts g c = acts_ok _ _ c.in-Ok.bytes c.acts_of.result c.in-Ok.ensures.bytes (rw (sym c.deref.ensures.value) c.acts_of.ensures.acts)

pub returns-in-Err-clause-acts : goal.returns-in-Err-clause-acts
returns-in-Err-clause-acts g c = acts_err _ _ c.in-Err.halt c.in-Err.ensures.bytes
