use Rattle.std.proofs.Common.{◌∙◌, ◌++◌, ap}
use Rattle.gufi_base.specs.Basics.{line}
use Rattle.gufi_list.specs.Texts.{record_text, total_text}
use Rattle.gufi_list.proofs.record.stat_text.Goals as goal

pub returns : goal.returns
returns c =
    let path = c.args.path.now in
    c.in_ok-put_total_line.ensures
    ∙ ap (λ text. text ++ line (total_text c.args.sum.now))
    (c.in_ok-put_record.ensures ∙ ap (λ text. text ++ record_text path c.meta.result.now) c.new-out.ensures.items ∙ ap (record_text path) c.meta.ensures)
