use Rattle.gufi_rows.proofs.RowLists.{OnOk-rows_append}
use Rattle.gufi_rows.proofs.row_list.RowListYield.merge.Goals as goal

pub returns : goal.returns
returns c = OnOk-rows_append c.append.result c.args.self.now c.append.new.self c.args.other c.append.ensures
