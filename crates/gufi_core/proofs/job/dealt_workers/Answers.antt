use Rattle.std.proofs.Common.{◌∙◌, length, ap, [], length-set}
use Rattle.gufi_core.proofs.Deals.{fresh_idle, length_fresh, dealt_more}
use Rattle.gufi_core.proofs.job.dealt_workers.Goals as goal

pub loop-place-init : goal.loop-place-init
loop-place-init c = record {
  len = ap length (c.in_ok-workers.ensures ∙ fresh_idle c.args.count) ∙ length_fresh c.args.count [];
  dealt = c.in_ok-workers.ensures ∙ fresh_idle c.args.count;
}

pub loop-place-preserved : goal.loop-place-preserved
loop-place-preserved c = record {
  len = simp length-set c.loop-place.invariant.len;
  dealt = dealt_more c.args.count c.loop-place.place c.args.first.now c.loop-place.workers.items _ c.deal.new.self c.requires c.loop-place-test.true c.loop-place.invariant.dealt c.index_mut-worker.ensures.value c.in_ok-deal.ensures;
}
