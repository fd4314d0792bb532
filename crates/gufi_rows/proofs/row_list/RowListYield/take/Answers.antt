use Rattle.gufi_rows.proofs.RowLists.{OnOk-rows_push}
use Rattle.gufi_rows.proofs.row_list.RowListYield.take.Goals as goal

pub returns : goal.returns
returns c = OnOk-rows_push c.push.result c.args.self.now c.push.new.self c.args.row c.push.ensures
