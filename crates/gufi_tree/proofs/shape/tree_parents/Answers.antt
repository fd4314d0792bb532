use Rattle.std.proofs.Common.{arith}
use Rattle.gufi_tree.proofs.Shaped.{tree_with}
use Rattle.gufi_tree.proofs.shape.tree_parents.Goals as goal

pub returns : goal.returns
returns c = tree_with c.args.dirs.now c.loop-place.parents.items (omega arith) (omega arith) (λ k lt. c.loop-place.invariant.each k (omega arith)) c.requires.kinds c.requires.distinct
