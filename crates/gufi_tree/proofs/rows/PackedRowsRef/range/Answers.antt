use Rattle.gufi_tree.proofs.Paired.{rows_between}
use Rattle.gufi_tree.proofs.rows.PackedRowsRef.range.Goals as goal

pub returns : goal.returns
returns c = rows_between c.self.inside.spots.now c.self.inside.metas.now c.args.self.now c.self.view_is c.self.invariant c.args.first c.args.count
