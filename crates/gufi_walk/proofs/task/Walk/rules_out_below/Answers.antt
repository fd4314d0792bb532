use Rattle.std.proofs.Common.{◌∙◌, sym}
use Rattle.gufi_tree.specs.Places.{path_at}
use Rattle.gufi_snap.specs.Pieces.{tree_sum}
use Rattle.gufi_walk.specs.Walk.{sees_all}
use Rattle.gufi_walk.proofs.Passed.{tree_has_dir, not_ruled_out}
use Rattle.gufi_walk.proofs.task.Walk.rules_out_below.Goals as goal

pub returns-else-asks_sums : goal.returns-else-asks_sums
returns-else-asks_sums g c =
    let w = c.args.self.now in
    let tree = w.snap.now.tree in
    let counted = tree_has_dir tree c.tree-tree.ensures.shape c.args.id.0 c.requires in
    not_ruled_out (sees_all w.who.now) c.asks_sums.result (g.S.Skip.skips w.skip.now (tree_sum tree (path_at tree c.args.id.0)))
    (c.if-asks_sums.false ∙ sym (c.asks_sums.ensures c.if-asks_sums.false (tree_sum tree (path_at tree c.args.id.0)) counted)) c.if-asks_sums.false
