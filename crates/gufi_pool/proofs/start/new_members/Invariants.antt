use Rattle.std.proofs.Common.{◌≡◌, ℕ, List, length, map, All}
use Rattle.gufi_pool.specs.Members.{IsNew, HaveRun, member_piece}
use Rattle.gufi_pool.proofs.start.new_members.Given as goal

abbrev pub invariant-loop-number : goal.invariant-loop-number
invariant-loop-number g l = record {
  count : length l.members.items ≡ l.number;
  new : All IsNew l.members.items;
  pieces : (ran : List ℕ) → g.J.Job.stands l.job l.fn.piece ran → HaveRun (g.J.Job.stands l.job) ran (map member_piece l.members.items);
}
