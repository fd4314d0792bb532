use Rattle.gufi_pool.proofs.opening.open.Goals as goal

pub run_next-requires-clause-opened : goal.run_next-requires-clause-opened
run_next-requires-clause-opened g c κs within = (c.args.first.now, c.loop.invariant)

pub loop-preserved : goal.loop-preserved
loop-preserved g c = c.in_ok-run_next.ensures c.args.first.now c.loop.invariant
