use Rattle.std.proofs.Common.{arith}
use Rattle.gufi_tree.specs.Places.{path_at}
use Rattle.gufi_snap.proofs.Counting.{entries_counted, rows_few}
use Rattle.gufi_snap.proofs.contents.Contents.entries_below.Goals as goal

pub overflow_add-result : goal.overflow_add-result
overflow_add-result c =
    let few = rows_few c.args.self.now (path_at c.args.self.now c.args.id.0) c.tree_sum-sum.result c.tree-tree.ensures.shape c.tree-tree.ensures.few c.tree_sum-sum.ensures in
    omega arith

pub overflow_add-result-2 : goal.overflow_add-result-2
overflow_add-result-2 c =
    let few = rows_few c.args.self.now (path_at c.args.self.now c.args.id.0) c.tree_sum-sum.result c.tree-tree.ensures.shape c.tree-tree.ensures.few c.tree_sum-sum.ensures in
    omega arith

pub returns : goal.returns
returns c = entries_counted c.args.self.now (path_at c.args.self.now c.args.id.0) c.tree_sum-sum.result c.tree-tree.ensures.shape c.tree_sum-sum.ensures
