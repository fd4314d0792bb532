use Rattle.std.proofs.Common.{◌≡◌, ◌++◌}
use Rattle.gufi_core.proofs.job.workers_left.Given as goal

abbrev pub invariant-loop-worker : goal.invariant-loop-worker
invariant-loop-worker l = l.fn.running.items ≡ l.workers.items ++ l.worker-iterator.rest.items
