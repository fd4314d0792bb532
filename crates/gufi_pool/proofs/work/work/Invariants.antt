use Rattle.gufi_pool.specs.Members.{Worked}
use Rattle.gufi_pool.proofs.work.work.Given as goal

abbrev pub invariant-loop : goal.invariant-loop
invariant-loop g l = Worked g.T.GivenTasks.given (g.J.Job.kids_of l.job) (g.J.Job.stands l.job) l.fn.member l.member
