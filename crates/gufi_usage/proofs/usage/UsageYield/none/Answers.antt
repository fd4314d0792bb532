use Rattle.std.proofs.Common.{◌∙◌, sym}
use Rattle.gufi_usage.specs.Laws.{usage_of-nil}
use Rattle.gufi_usage.proofs.usage.UsageYield.none.Goals as goal

pub returns : goal.returns
returns c = record { is = c.nothing.ensures.usage ∙ sym usage_of-nil; in_range = c.nothing.ensures.in_range }
