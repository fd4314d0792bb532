use Rattle.std.proofs.Common.{◌∙◌, [], ◌∷◌, ◌++◌, ap}
use Rattle.gufi_rows.proofs.PathLists.{line-parts}
use Rattle.gufi_rows.proofs.path_lines.put_line.Goals as goal

pub returns : goal.returns
returns c = λ path parts.
    c.in_ok-push.ensures.items
    ∙ ap (λ t. t ++ 10 ∷ []) (c.in_ok-extend_from_slice-2.ensures.items ∙ ap (λ t. t ++ c.args.parts.base.now) c.in_ok-extend_from_slice.ensures.items)
    ∙ line-parts c.args.parts.stem.now c.args.parts.base.now c.args.text.now.items path parts
