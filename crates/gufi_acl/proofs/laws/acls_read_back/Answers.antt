use Rattle.gufi_acl.proofs.Back.{acl_reads_back}
use Rattle.gufi_acl.proofs.laws.acls_read_back.Goals as goal

pub returns : goal.returns
returns c = acl_reads_back
