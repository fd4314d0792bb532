use Rattle.std.proofs.Common.{◌≡◌, sym, All, Contains, subst}
use Rattle.gufi_pool.proofs.work.run_task.Goals as goal

pub push_all-requires-clause-given : goal.push_all-requires-clause-given
push_all-requires-clause-given g c =
    let v = c.deref.ensures.value in
    let k = c.in_ok-run.ensures.kids in
    let n = c.new-kids.ensures.items in
    let e : c.deref.result.now ≡ g.J.Job.kids_of c.args.job.now c.args.task = cc in
    subst (All (Contains g.T.GivenTasks.given)) (sym e) (c.requires.closed c.args.task c.requires.given)
