use Rattle.std.proofs.Common.{sym}
use Rattle.gufi_top.proofs.StepLemmas.{group_ok, group_err}
use Rattle.gufi_top.proofs.users.read_group_file.Goals as goal

pub returns-in-Ok-clause-groups : goal.returns-in-Ok-clause-groups
returns-in-Ok-clause-groups g c = group_ok _ (λ groups. groups) _ c.in-Ok.bytes c.groups_of.result c.in-Ok.ensures.bytes (rw (sym c.deref.ensures.value) c.groups_of.ensures.groups)

pub returns-in-Err-clause-groups : goal.returns-in-Err-clause-groups
returns-in-Err-clause-groups g c = group_err _ (λ groups. groups) _ c.in-Err.halt c.in-Err.ensures.bytes
