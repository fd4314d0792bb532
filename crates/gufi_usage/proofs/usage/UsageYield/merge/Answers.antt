use Rattle.std.proofs.Common.{◌∙◌, sym, ap}
use Rattle.gufi_usage.specs.Usages.{usage_of, both}
use Rattle.gufi_usage.specs.Laws.{usage_of-append}
use Rattle.gufi_usage.proofs.usage.UsageYield.merge.Goals as goal

pub returns : goal.returns
returns c = λ rows more own others. record {
  is = c.join.ensures.usage ∙ ap (λ u. both u c.args.other) own.is ∙ ap (both (usage_of rows)) others.is ∙ sym (usage_of-append rows more);
  in_range = c.join.ensures.in_range;
}
