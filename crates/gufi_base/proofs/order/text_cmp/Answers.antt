use Rattle.gufi_base.proofs.Orders.{kept_texts_ordered}
use Rattle.gufi_base.proofs.order.text_cmp.Goals as goal

pub returns-clause-paths : goal.returns-clause-paths
returns-clause-paths c = kept_texts_ordered c.args.a.now c.args.b.now c.compare.result c.compare.ensures
