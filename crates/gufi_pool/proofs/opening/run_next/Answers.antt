use Rattle.std.proofs.Common.{sym, subst, refl, Contains}
use Rattle.gufi_pool.specs.Openings.{ran_of}
use Rattle.gufi_pool.proofs.Openings.{opening_one}
use Rattle.gufi_pool.proofs.opening.run_next.Goals as goal

pub run-requires-clause-given : goal.run-requires-clause-given
run-requires-clause-given g c =
    subst (Contains (g.J.Job.given c.args.job.now)) (sym c.index-task.ensures) (c.requires.opened.1.allowed c.args.opening.now.next c.index-task.result.now c.requires.next)

pub run-requires-clause-stood : goal.run-requires-clause-stood
run-requires-clause-stood g c = (ran_of c.args.opening.now, c.requires.opened.1.piece)

pub returns : goal.returns
returns g c first opened =
    let task = c.index-task.result.now in
    let may = subst (Contains (g.J.Job.given c.args.job.now)) (sym c.index-task.ensures) (opened.allowed c.args.opening.now.next task c.requires.next) in
    opening_one (g.J.Job.given c.args.job.now) first (g.J.Job.kids_of c.args.job.now) (g.J.Job.stands c.args.job.now) c.args.opening.now _ task task
    c.requires.closed opened c.requires.next c.index-task.ensures may refl c.in_ok-run.ensures.kids (c.in_ok-run.ensures.piece (ran_of c.args.opening.now) opened.piece)
