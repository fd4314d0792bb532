use Rattle.std.proofs.Common.{sym}
use Rattle.gufi_top.proofs.StepLemmas.{passwd_ok, passwd_err}
use Rattle.gufi_top.proofs.users.read_passwd_file.Goals as goal

pub returns-in-Ok-clause-users : goal.returns-in-Ok-clause-users
returns-in-Ok-clause-users g c = passwd_ok _ (λ users. users) _ c.in-Ok.bytes c.passwd_of.result c.in-Ok.ensures.bytes (rw (sym c.deref.ensures.value) c.passwd_of.ensures.users)

pub returns-in-Err-clause-users : goal.returns-in-Err-clause-users
returns-in-Err-clause-users g c = passwd_err _ (λ users. users) _ c.in-Err.halt c.in-Err.ensures.bytes
