use Rattle.std.proofs.Common.{◌∙◌, sym, ap}
use Rattle.gufi_sums.specs.Total.{total, join}
use Rattle.gufi_sums.specs.Laws.{total-append}
use Rattle.gufi_sums.proofs.summary.SummaryYield.merge.Goals as goal

pub returns : goal.returns
returns c = λ rows more own others. record {
  is = c.join.ensures.sum ∙ ap (λ s. join s c.args.other) own.is ∙ ap (join (total rows)) others.is ∙ sym (total-append rows more);
  bounded = c.join.ensures.bounded;
}
