use Rattle.std.proofs.Common.{◌≡◌, take, length}
use Rattle.gufi_core.specs.Steps.{fresh_workers}
use Rattle.gufi_core.proofs.job.dealt_workers.Given as goal

abbrev pub invariant-loop-place : goal.invariant-loop-place
invariant-loop-place l = record {
  len : length l.workers.items ≡ l.count;
  dealt : l.workers.items ≡ fresh_workers l.count (take l.place l.first);
}
