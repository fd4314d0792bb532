use Rattle.std.proofs.Common.{◌∙◌, arith}
use Rattle.std.proofs.lemmas.Result.{IfOk-weaker}
use Rattle.gufi_stats.specs.Grouped.{number_of}
use Rattle.gufi_stats.specs.GroupLaws.{grouped-counted}
use Rattle.gufi_stats.specs.Labels.{label_text}
use Rattle.gufi_stats.proofs.Joined.{lines-less, by_key-less}
use Rattle.gufi_stats.proofs.by_key.lines_by.Goals as goal

pub lines-requires : goal.lines-requires
lines-requires c =
    let count = grouped-counted (λ meta. meta) (number_of c.args.key) c.in_ok-groups.groups c.args.rows.now c.in_ok-groups.ensures in
    omega (arith, count, c.requires)

pub returns : goal.returns
returns c =
    let key = number_of c.args.key in
    let label = label_text c.args.label in
    IfOk-weaker c.lines.result _ _ (λ text is. is ∙ lines-less label key 0 c.args.rows.now c.in_ok-groups.groups c.in_ok-groups.ensures ∙ by_key-less label key c.args.rows.now) c.lines.ensures
