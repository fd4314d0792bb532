use Rattle.gufi_glob.proofs.ByteSets.{one_byte_more}
use Rattle.gufi_glob.proofs.byte_set.ByteSet.insert.Goals as goal

pub returns : goal.returns
returns c = λ b within. one_byte_more c.args.self.now.words c.args.byte c.args.self.now.whole c.requires b
