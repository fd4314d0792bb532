use Rattle.gufi_acl.proofs.Plain.{acl_texts_are_plain}
use Rattle.gufi_acl.proofs.laws.acls_write_plain_text.Goals as goal

pub returns : goal.returns
returns c = acl_texts_are_plain
