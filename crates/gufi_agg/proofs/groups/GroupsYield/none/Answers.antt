use Rattle.std.proofs.Common.{◌∙◌}
use Rattle.gufi_stats.proofs.Grouped.{grouped-none}
use Rattle.gufi_agg.specs.Grouped.{as_file}
use Rattle.gufi_agg.proofs.groups.GroupsYield.none.Goals as goal

pub returns : goal.returns
returns g c = c.new.ensures ∙ grouped-none as_file g.K.RowNumber.number
