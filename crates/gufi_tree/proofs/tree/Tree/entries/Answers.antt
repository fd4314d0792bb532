use Rattle.std.proofs.Common.{◌∙◌, ap}
use Rattle.gufi_base.specs.Basics.{ascends}
use Rattle.gufi_tree.specs.Tree.{Directory, entry_cmp}
use Rattle.gufi_tree.proofs.Linked.{list_all-get}
use Rattle.gufi_tree.proofs.tree.Tree.entries.Goals as goal

pub returns-clause-order : goal.returns-clause-order
returns-clause-order c =
    let d = c.dir.result in
    ap (ascends entry_cmp) (c.entries.ensures ∙ ap (λ (v : Directory). v.entries) (c.dir.ensures.value d))
    ∙ list_all-get (λ (v : Directory). ascends entry_cmp v.entries) c.args.self.now c.args.id.0 d c.dir.ensures.shape.entries c.requires
