use Rattle.std.proofs.Common.{length, ap, arith}
use Rattle.gufi_walk.proofs.Walked.{depth_at-place}
use Rattle.gufi_walk.proofs.descent.depth_of.Goals as goal

pub overflow_cast-result : goal.overflow_cast-result
overflow_cast-result c =
    let depth = depth_at-place c.args.tree.now c.requires.shape c.args.id.0 c.requires.within in
    omega (arith, c.depth.ensures, ap length c.path.ensures)
