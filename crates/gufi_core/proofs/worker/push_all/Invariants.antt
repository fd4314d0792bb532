use Rattle.std.proofs.Common.{◌≡◌, ◌++◌, take}
use Rattle.gufi_core.proofs.worker.push_all.Given as goal

abbrev pub invariant-loop-task : goal.invariant-loop-task
invariant-loop-task l = l.queue.items ≡ l.fn.queue.items ++ take l.task-index l.tasks
