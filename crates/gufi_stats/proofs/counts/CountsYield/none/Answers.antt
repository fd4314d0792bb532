use Rattle.std.proofs.Common.{◌∙◌}
use Rattle.gufi_stats.proofs.Grouped.{grouped-none}
use Rattle.gufi_stats.proofs.counts.CountsYield.none.Goals as goal

pub returns : goal.returns
returns g c = c.new.ensures ∙ grouped-none (λ meta. meta) g.K.RowNumber.number
