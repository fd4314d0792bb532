use Rattle.std.proofs.Common.{◌∙◌, sym, ap}
use Rattle.gufi_tree.specs.Tree.{Directory}
use Rattle.gufi_tree.proofs.Linked.{path_at-get}
use Rattle.gufi_tree.proofs.tree.Tree.path.Goals as goal

pub returns : goal.returns
returns c =
    let d = c.dir.result in
    c.path.ensures ∙ ap (λ (v : Directory). v.path) (c.dir.ensures.value d) ∙ sym (path_at-get c.args.self.now c.args.id.0 d c.requires)
