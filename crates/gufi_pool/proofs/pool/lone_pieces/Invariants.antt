use Rattle.std.proofs.Common.{◌≡◌, ℕ, List, length}
use Rattle.gufi_pool.specs.Members.{HaveRun}
use Rattle.gufi_pool.proofs.pool.lone_pieces.Given as goal

abbrev pub invariant-loop-number : goal.invariant-loop-number
invariant-loop-number g l = record {
  count : length l.pieces.items ≡ l._number;
  pieces : (ran : List ℕ) → g.J.Job.stands l.job l.fn.piece ran → HaveRun (g.J.Job.stands l.job) ran l.pieces.items;
}
