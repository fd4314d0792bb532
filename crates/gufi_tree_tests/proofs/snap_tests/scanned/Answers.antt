use Rattle.std.proofs.Common.{◌<◌, ◌^◌, [], length, arith}
use Rattle.gufi_tree.specs.Tree.{all_rows}
use Rattle.gufi_tree.specs.Places.{path_at}
use Rattle.gufi_snap.proofs.Growing.{total_nothing}
use Rattle.gufi_snap.proofs.Pieces.{piece-few}
use Rattle.gufi_tree_tests.proofs.snap_tests.scanned.Goals as goal

pub scan_piece-requires-clause-room : goal.scan_piece-requires-clause-room
scan_piece-requires-clause-room g c =
    let tree = c.args.snap.now.tree in
    let few = piece-few tree (path_at tree c.args.id.0) c.args.snap.now.limit in
    let all : length (all_rows tree) < 2 ^ 40 = c.tree.ensures.few in
    let none = c.empty-sum.ensures.counted in
    omega arith

pub scan_piece-requires-clause-rows : goal.scan_piece-requires-clause-rows
scan_piece-requires-clause-rows g c = ([], total_nothing c.empty-sum.result c.empty-sum.ensures.sum c.empty-sum.ensures.bounded)
