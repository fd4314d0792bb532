use Rattle.std.proofs.Common.{◌++◌, sym, subst}
use Rattle.gufi_pool.proofs.Members.{ready_stays, frame_trans, worked_none, worked_one}
use Rattle.gufi_pool.proofs.work.work.Goals as goal

pub loop-init : goal.loop-init
loop-init g c = worked_none _

pub next_task-requires : goal.next_task-requires
next_task-requires g c = ready_stays c.loop.invariant.frame c.requires.ready

pub run_task-requires-clause-ready : goal.run_task-requires-clause-ready
run_task-requires-clause-ready g c κs within = ready_stays (frame_trans c.loop.invariant.frame c.in-Some-next_task.ensures.took.frame) c.requires.ready

pub loop-preserved : goal.loop-preserved
loop-preserved g c = worked_one _ c.in-Some-next_task.ensures.given c.loop.invariant c.in-Some-next_task.ensures.took c.in_ok-run_task.ensures

pub run_task-requires-clause-stood : goal.run_task-requires-clause-stood
run_task-requires-clause-stood g c κs within =
    let ran = c.requires.stood.ran ++ c.loop.invariant.more in
    record {
      ran = ran;
      has = subst (λ p. g.J.Job.stands c.args.job.now p ran) (sym c.in-Some-next_task.ensures.took.piece) (c.loop.invariant.piece c.requires.stood.ran c.requires.stood.has);
    }
