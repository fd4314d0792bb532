use Rattle.gufi_tree.proofs.Short.{bundle_short}
use Rattle.gufi_tree.proofs.bundle.Bundle.longest.Goals as goal

pub returns : goal.returns
returns c = bundle_short c.self.inside.text.items c.self.inside.rows c.self.inside.heads c.self.inside.longest c.args.self.now c.self.invariant c.self.view_is
