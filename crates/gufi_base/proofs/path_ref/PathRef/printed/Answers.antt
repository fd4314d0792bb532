use Rattle.std.proofs.Common.{arith}
use Rattle.gufi_base.proofs.Texts.{printed-text}
use Rattle.gufi_base.proofs.path_ref.PathRef.printed.Goals as goal

pub returns : goal.returns
returns c = rw (← c.self.view_is) (printed-text c.self.inside.text.now c.self.invariant (omega arith))
