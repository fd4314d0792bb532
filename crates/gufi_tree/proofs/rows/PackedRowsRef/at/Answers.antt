use Rattle.gufi_tree.proofs.Paired.{row_at}
use Rattle.gufi_tree.proofs.rows.PackedRowsRef.at.Goals as goal

pub returns : goal.returns
returns c = λ row. row_at c.self.inside.spots.now c.self.inside.metas.now c.args.self.now c.self.view_is c.self.invariant c.args.place _ _ row c.requires
