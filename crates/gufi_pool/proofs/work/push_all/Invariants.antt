use Rattle.std.proofs.Common.{◌≡◌, ◌++◌, take}
use Rattle.crossbeam_deque.specs.Handles.{worker_deque, worker_view}
use Rattle.gufi_pool.specs.Accounts.{account}
use Rattle.gufi_pool.proofs.work.push_all.Given as goal

abbrev pub invariant-loop-task : goal.invariant-loop-task
invariant-loop-task g l = record {
  same : worker_deque l.own ≡ worker_deque l.fn.own;
  pushed : worker_view l.own ≡ account (worker_view l.fn.own).share ((worker_view l.fn.own).pushed ++ take l.task-index l.tasks) (worker_view l.fn.own).taken;
}
