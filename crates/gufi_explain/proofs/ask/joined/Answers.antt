use Rattle.std.proofs.Common.{◌∙◌}
use Rattle.gufi_explain.proofs.Joins.{joined-put}
use Rattle.gufi_explain.proofs.ask.joined.Goals as goal

pub returns : goal.returns
returns c =
    joined-put c.args.words.now c.first-item.result c.in_ok-text.text.items c.put_others.new.text.items c.in-len1-up.len_at_least c.first-item.is
    (c.in_ok-text.ensures.items ∙ c.as_slice.ensures) c.in_ok-put_others.ensures
