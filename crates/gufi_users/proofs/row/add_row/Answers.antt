use Rattle.gufi_users.proofs.RowLemmas.{row_added}
use Rattle.gufi_users.proofs.row.add_row.Goals as goal

pub returns : goal.returns
returns g c = row_added c.args.rows.now.entries _ _ _ c.in_ok-replaced.replaced _ c.in_ok-replaced.ensures.old c.in_ok-replaced.ensures.entries c.is_none.ensures
