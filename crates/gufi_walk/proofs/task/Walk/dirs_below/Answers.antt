use Rattle.std.proofs.Common.{List, length, ap, sym, ◌∙◌}
use Rattle.gufi_tree.specs.Places.{path_at}
use Rattle.gufi_tree.specs.Tree.{Directory}
use Rattle.gufi_tree.proofs.Below.{below_dirs}
use Rattle.gufi_snap.proofs.Ranges.{total_counted}
use Rattle.gufi_walk.proofs.task.Walk.dirs_below.Goals as goal

pub returns : goal.returns
returns g c =
    let tree = c.args.self.now.snap.now.tree in
    c.dirs_below.ensures ∙ ap (λ (ds : List Directory). length (below_dirs ds (path_at ds c.args.id.0))) c.tree-tree.ensures.tree ∙ sym (total_counted tree (path_at tree c.args.id.0) c.tree-tree.ensures.shape)
