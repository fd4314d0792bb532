use Rattle.std.proofs.Common.{arith}
use Rattle.gufi_base.proofs.PlainTexts.{kept_parts-short}
use Rattle.gufi_base.proofs.path_reading.parts_of.Goals as goal

pub overflow_add-count : goal.overflow_add-count
overflow_add-count c = omega (arith, c.loop-part.invariant.names, kept_parts-short c.args.bytes.now)
