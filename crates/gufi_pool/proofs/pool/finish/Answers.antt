use Rattle.std.proofs.Common.{sym, subst}
use Rattle.gufi_pool.specs.Members.{Finished}
use Rattle.gufi_pool.proofs.Starts.{finished_one}
use Rattle.gufi_pool.proofs.pool.finish.Goals as goal

pub returns : goal.returns
returns g c =
    subst (Finished g.T.GivenTasks.given (g.J.Job.kids_of c.args.job.now) (g.J.Job.stands c.args.job.now) c.args.member) (sym c.into_piece.ensures)
    (finished_one _ _ c.requires.home c.in_ok-member.ensures.worked c.in_ok-member.ensures.settled)
