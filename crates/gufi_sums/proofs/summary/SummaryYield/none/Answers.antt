use Rattle.gufi_sums.specs.Total.{total}
use Rattle.gufi_sums.proofs.summary.SummaryYield.none.Goals as goal

pub returns : goal.returns
unfolding total
returns c = record { is = c.empty.ensures.sum; bounded = c.empty.ensures.bounded }
