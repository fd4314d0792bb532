use Rattle.std.proofs.Common.{◌∙◌}
use Rattle.gufi_tree.proofs.Linked.{ids_under-children}
use Rattle.gufi_tree.proofs.tree.Tree.subdirs.Goals as goal

pub returns : goal.returns
returns c =
    rw (← c.self.view_is) (c.subdirs.ensures ∙ ids_under-children c.self.inside.dirs c.self.inside.links c.self.invariant.shape c.self.invariant.parents c.args.id.0 (rw (c.self.view_is) c.requires))
