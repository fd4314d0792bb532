use Rattle.std.proofs.Common.{◌≡◌}
use Rattle.std.specs.Prelude.{replicate}
use Rattle.gufi_core.specs.Running.{idle_worker}
use Rattle.gufi_core.proofs.job.idle_workers.Given as goal

abbrev pub invariant-loop : goal.invariant-loop
invariant-loop l = l.workers.items ≡ replicate l.counter idle_worker
