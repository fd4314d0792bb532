use Rattle.std.proofs.Common.{◌∙◌, ◌++◌, ap}
use Rattle.gufi_rows.specs.PathLines.{path_lines}
use Rattle.gufi_rows.proofs.path_list.PathList.lines.Goals as goal

pub returns : goal.returns
returns c = λ rows of up. c.in_ok-put_lines.ensures rows of up ∙ ap (λ t. t ++ path_lines rows) c.new-text.ensures.items
