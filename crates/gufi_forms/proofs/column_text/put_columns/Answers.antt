use Rattle.gufi_forms.proofs.ColumnLines.{columns_put}
use Rattle.gufi_forms.proofs.column_text.put_columns.Goals as goal

pub returns : goal.returns
returns g c =
    columns_put (g.T.ColumnText.text c.args.texts.now) c.args.columns.now c.in-Some.first.now c.in-Some.others.now c.args.out.now.items c.put.new.out.items c.put_others.new.out.items
    c.in-Some.ensures c.in_ok-put.ensures c.in_ok-put_others.ensures
