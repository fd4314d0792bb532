use Rattle.std.proofs.Common.{◌∙◌, ◌++◌, ℕ, ap, sym, append_assoc, length}
use Rattle.std.specs.Prelude.{codes, decimal}
use Rattle.std.specs.List.{flat_map}
use Rattle.std.proofs.lemmas.List.Sorted.{length_permutation}
use Rattle.gufi_base.specs.declared.record.Row.{Row}
use Rattle.gufi_base.specs.Basics.{line}
use Rattle.gufi_base.specs.Rows.{depth_below}
use Rattle.gufi_select.specs.Columns.{projected, select_lines}
use Rattle.gufi_session.proofs.reply.put_rows.Goals as goal

pub returns : goal.returns
returns c = λ of are up.
    let text = c.args.text.now.items in
    let select = c.args.select.now in
    let lines = select_lines select c.args.start.now of in
    let size = c.len.ensures ∙ sym (length_permutation c.args.rows of are) in
    c.in_ok-put_lines.ensures of are up
    ∙ ap (λ (n : ℕ). c.put_count.new.text.items ++ flat_map (λ (row : Row). projected select row (depth_below n row)) of) c.depth.ensures
    ∙ ap (λ t. t ++ lines) (c.in_ok-put_count.ensures ∙ ap (λ n. text ++ line (codes " rows " ++ decimal n)) size)
    ∙ append_assoc text (line (codes " rows " ++ decimal (length of))) lines
