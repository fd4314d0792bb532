use Rattle.std.proofs.Common.{◌∙◌}
use Rattle.std.proofs.lemmas.List.{drop-take}
use Rattle.gufi_tree.proofs.tree.Tree.range.Goals as goal

pub returns : goal.returns
returns c = c.between.ensures ∙ drop-take c.args.first.0 c.args.count c.args.self.now
