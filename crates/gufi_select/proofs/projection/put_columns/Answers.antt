use Rattle.gufi_select.specs.Parts.{seen_parts}
use Rattle.gufi_select.proofs.LineLemmas.{columns_put}
use Rattle.gufi_select.proofs.projection.put_columns.Goals as goal

pub returns : goal.returns
returns c =
    columns_put (seen_parts c.args.row c.args.depth) c.args.columns.now c.in-Some.first.now c.in-Some.others.now c.args.out.now.items c.put_value.new.out.items c.put_others.new.out.items
    c.in-Some.ensures c.in_ok-put_value.ensures c.in_ok-put_others.ensures
