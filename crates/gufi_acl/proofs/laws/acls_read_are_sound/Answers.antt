use Rattle.gufi_acl.proofs.Sound.{read_acls_are_sound}
use Rattle.gufi_acl.proofs.laws.acls_read_are_sound.Goals as goal

pub returns : goal.returns
returns c = read_acls_are_sound
