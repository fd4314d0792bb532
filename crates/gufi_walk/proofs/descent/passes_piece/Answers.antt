use Rattle.std.proofs.Common.{sym}
use Rattle.gufi_sums.specs.Total.{total}
use Rattle.gufi_tree.specs.Places.{path_at}
use Rattle.gufi_snap.specs.Pieces.{piece}
use Rattle.gufi_walk.proofs.Passed.{piece_has_dir}
use Rattle.gufi_walk.proofs.descent.passes_piece.Goals as goal

pub returns-then-not-asks_sums : goal.returns-then-not-asks_sums
returns-then-not-asks_sums g c =
    let snap = c.args.snap.now in
    let counted = piece_has_dir snap.tree c.tree-tree.ensures.shape snap.limit c.args.id.0 c.requires in
    sym (c.asks_sums.ensures c.if-not-asks_sums.true (total (piece snap.tree (path_at snap.tree c.args.id.0) snap.limit)) counted)
