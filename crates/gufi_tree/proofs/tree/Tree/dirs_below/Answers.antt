use Rattle.std.proofs.Common.{sym}
use Rattle.gufi_tree.proofs.LastBelow.{below_count}
use Rattle.gufi_tree.proofs.tree.Tree.dirs_below.Goals as goal

pub returns : goal.returns
returns c = sym (below_count c.args.self.now c.dirs-count.ensures.shape c.args.id.0 c.last_below.result.0 c.last_below.ensures)
