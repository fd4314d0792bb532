use Rattle.gufi_tree.specs.Places.{path_at}
use Rattle.gufi_snap.specs.Pieces.{tree_sum}
use Rattle.gufi_walk.specs.Walk.{sees_all}
use Rattle.gufi_walk.proofs.Passed.{own_not_passed, not_ruled_out}
use Rattle.gufi_walk.proofs.descent.rules_out_below.Goals as goal

pub returns-else-passed : goal.returns-else-passed
returns-else-passed g c =
    let snap = c.args.snap.now in
    let skips = g.S.Skip.skips c.args.skip.now in
    not_ruled_out (sees_all c.args.who.now) c.args.passed (skips (tree_sum snap.tree (path_at snap.tree c.args.id.0)))
    (own_not_passed skips (g.S.Skip.parts c.args.skip.now) snap.tree snap.limit (path_at snap.tree c.args.id.0) c.args.passed c.requires.passed c.if-passed.false) c.if-passed.false
