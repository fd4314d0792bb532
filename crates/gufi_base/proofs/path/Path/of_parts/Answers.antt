use Rattle.std.proofs.Common.{arith}
use Rattle.gufi_base.proofs.CutParts.{IsText-parts}
use Rattle.gufi_base.proofs.path.Path.of_parts.Goals as goal

pub invariant_of-result : goal.invariant_of-result
invariant_of-result c = (IsText-parts c.args.stem.now c.args.base.now c.in_ok-text.text.items c.requires.0 c.requires.1 (omega arith) c.in_ok-text.ensures).0

pub returns : goal.returns
returns c = λ path parts. (IsText-parts c.args.stem.now c.args.base.now c.in_ok-text.text.items path parts (omega arith) c.in_ok-text.ensures).1
