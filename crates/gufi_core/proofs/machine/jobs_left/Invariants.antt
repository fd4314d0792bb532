use Rattle.std.proofs.Common.{◌≡◌, ◌++◌}
use Rattle.gufi_core.proofs.machine.jobs_left.Given as goal

abbrev pub invariant-loop-job : goal.invariant-loop-job
invariant-loop-job l = l.fn.running.items ≡ l.jobs.items ++ l.job-iterator.rest.items
