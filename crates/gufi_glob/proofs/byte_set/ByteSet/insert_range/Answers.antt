use Rattle.std.proofs.Common.{◌∙◌, arith}
use Rattle.gufi_glob.specs.ByteSets.{has_byte}
use Rattle.gufi_glob.proofs.ByteSets.{range_whole}
use Rattle.gufi_glob.proofs.byte_set.ByteSet.insert_range.Goals as goal

pub returns : goal.returns
returns c = λ b within.
    c.bytes.invariant.some b within
    ∙ range_whole c.args.from c.args.to c.bytes.byte b (has_byte c.args.self.now.words b) (omega arith) (λ some. omega arith) (λ none. c.bytes.invariant.none (omega arith))
