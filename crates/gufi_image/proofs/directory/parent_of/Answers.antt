use Rattle.std.proofs.Common.{arith}
use Rattle.gufi_image.proofs.Searches.{parent_there}
use Rattle.gufi_image.proofs.directory.parent_of.Goals as goal

pub returns : goal.returns
returns c = parent_there c.args.before.now.dirs c.args.number c.at.result c.requires (omega (arith, c.len.ensures, c.if-place-len.false)) c.at.ensures
