use Rattle.std.proofs.Common.{◌≡◌, ◌++◌}
use Rattle.std.specs.List.{AllZip}
use Rattle.gufi_pool.specs.Members.{Finished}
use Rattle.gufi_pool.proofs.pool.settle.Given as goal

abbrev pub invariant-loop-member : goal.invariant-loop-member
invariant-loop-member g l = record {
  left : l.fn.members.items ≡ l.yielded ++ l.member-iterator.rest.items;
  finished : AllZip (Finished g.T.GivenTasks.given (g.J.Job.kids_of l.job) (g.J.Job.stands l.job)) l.yielded l.pieces.items;
}
