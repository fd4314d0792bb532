use Rattle.std.proofs.Common.{arith, ap, length}
use Rattle.gufi_rows.proofs.RowLists.{length-rows_in}
use Rattle.gufi_rows.proofs.row_list.RowList.len.Goals as goal

pub returns : goal.returns
returns c =
    let s = c.self.inside in
    omega (arith, c.len.ensures, s.records.ok.0, length-rows_in s.links.items s.paths s.records.items c.self.invariant.alike, ap length c.self.view_is)
