use Rattle.std.proofs.Common.{List, ap, ◌∙◌}
use Rattle.gufi_base.specs.Paths.{Components}
use Rattle.gufi_tree.specs.Tree.{Directory, entry_count}
use Rattle.gufi_tree.proofs.Below.{below_dirs}
use Rattle.gufi_tree.proofs.Linked.{root_first}
use Rattle.gufi_snap.proofs.Counting.{all_below}
use Rattle.gufi_snap.proofs.contents.Contents.entries.Goals as goal

pub returns : goal.returns
returns c =
    let tree = c.args.self.now in
    c.entries_below.ensures
    ∙ ap (λ (p : Components). entry_count (below_dirs tree p)) (root_first tree c.tree-tree.ensures.shape.order c.tree-tree.ensures.shape.root)
    ∙ ap (λ (ds : List Directory). entry_count ds) (all_below tree)
