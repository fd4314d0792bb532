use Rattle.std.proofs.Common.{◌∙◌, ap, arith}
use Rattle.std.specs.List.{flat_map}
use Rattle.std.proofs.lemmas.List.{take_all}
use Rattle.gufi_list.specs.Columns.{shown_line}
use Rattle.gufi_list.proofs.Shown.{shown_lines}
use Rattle.gufi_list.proofs.listing.ls_text.Goals as goal

pub returns : goal.returns
returns c =
    let rows = c.args.rows.now in
    c.loop-row.invariant ∙ ap (flat_map (shown_line c.args.users.now c.args.long c.args.all)) (take_all c.loop-row.row-index rows (omega arith))
    ∙ shown_lines c.args.users.now c.args.long c.args.all rows
