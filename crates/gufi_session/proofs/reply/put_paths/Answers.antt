use Rattle.std.proofs.Common.{◌∙◌, ◌++◌, ap, sym, append_assoc, length}
use Rattle.std.specs.Prelude.{codes, decimal}
use Rattle.gufi_base.specs.Basics.{line}
use Rattle.gufi_rows.specs.PathLines.{ArePathsOf-counted, path_lines}
use Rattle.gufi_session.proofs.reply.put_paths.Goals as goal

pub returns : goal.returns
returns c = λ rows are up.
    let text = c.args.text.now.items in
    let size = c.len.ensures ∙ sym (ArePathsOf-counted c.args.paths rows are) in
    c.in_ok-put_lines.ensures rows are up
    ∙ ap (λ t. t ++ path_lines rows) (c.in_ok-put_count.ensures ∙ ap (λ n. text ++ line (codes " rows " ++ decimal n)) size)
    ∙ append_assoc text (line (codes " rows " ++ decimal (length rows))) (path_lines rows)
