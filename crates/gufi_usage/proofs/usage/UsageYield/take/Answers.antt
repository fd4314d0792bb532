use Rattle.std.proofs.Common.{◌∙◌, sym, ap}
use Rattle.gufi_usage.specs.Usages.{usage_of, with_row}
use Rattle.gufi_usage.specs.Laws.{usage_of-add}
use Rattle.gufi_usage.proofs.usage.UsageYield.take.Goals as goal

pub returns : goal.returns
returns c = λ of rows shows h. record {
  is = c.add.ensures.usage ∙ ap (λ u. with_row u c.args.row.meta.now) h.is ∙ ap (with_row (usage_of rows)) shows.meta ∙ sym (usage_of-add rows of);
  in_range = c.add.ensures.in_range;
}
