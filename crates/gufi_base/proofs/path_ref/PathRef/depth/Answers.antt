use Rattle.gufi_base.proofs.Below.{depth-text}
use Rattle.gufi_base.proofs.path_ref.PathRef.depth.Goals as goal

pub returns : goal.returns
returns c = rw (← c.self.view_is) (depth-text c.self.inside.text.now c.count_slashes.result c.self.invariant c.count_slashes.ensures)
