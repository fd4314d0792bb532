use Rattle.std.proofs.Common.{arith, ◌∙◌}
use Rattle.std.proofs.lemmas.Result.{IfOk-weaker}
use Rattle.gufi_stats.specs.GroupLaws.{grouped-counted}
use Rattle.gufi_stats.specs.Labels.{label_text}
use Rattle.gufi_stats.proofs.Joined.{lines-less}
use Rattle.gufi_stats.proofs.counts.Counts.lines.Goals as goal

pub lines-requires : goal.lines-requires
lines-requires g c =
    let count = grouped-counted (λ meta. meta) g.K.RowNumber.number c.self.inside.groups c.requires.0 (c.self.view_is ∙ c.requires.1) in
    omega (arith, count, c.requires.2)

pub returns : goal.returns
returns g c =
    IfOk-weaker c.lines.result _ _ (λ text lines rows is. lines ∙ lines-less (label_text c.args.label) g.K.RowNumber.number c.args.less rows c.self.inside.groups (c.self.view_is ∙ is)) c.lines.ensures
