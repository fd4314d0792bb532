use Rattle.std.proofs.Common.{◌∙◌, sym, ap}
use Rattle.gufi_sums.specs.Total.{total, add}
use Rattle.gufi_sums.specs.Laws.{total-add}
use Rattle.gufi_sums.proofs.summary.SummaryYield.take.Goals as goal

pub returns : goal.returns
returns c = λ of rows shows h. record {
  is = c.add.ensures.sum ∙ ap (λ s. add s c.args.row.meta.now) h.is ∙ ap (add (total rows)) shows.meta ∙ sym (total-add rows of);
  bounded = c.add.ensures.bounded;
}
