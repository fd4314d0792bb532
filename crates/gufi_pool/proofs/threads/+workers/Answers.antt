use Rattle.std.proofs.Common.{rules, Some}
use Rattle.std.proofs.lemmas.List.Elements.{All-pop}
use Rattle.std.proofs.lemmas.Result.{IfOk-at_ok}
use Rattle.std.specs.List.{AllZip}
use Rattle.gufi_pool.specs.Members.{HasPiece, IsReady, Worked}
use Rattle.gufi_pool.proofs.Zips.{zip_one_more}
use Rattle.gufi_pool.proofs.threads.+workers.Goals as goal

pub join-theirs-requires-after_bounds : goal.join-theirs-requires-after_bounds
join-theirs-requires-after_bounds g t c κs within =
    let last = Some c.in-Some.last in
    let ready = All-pop IsReady _ _ last c.in-Some.ensures.items c.requires.ready in
    let stood = All-pop (HasPiece (g.J.Job.stands c.args.job.now)) _ _ last c.in-Some.ensures.items c.requires.stood in
    (((ready.1, stood.1, c.requires.job, c.requires.closed), search rules), search rules)

pub returns : goal.returns
returns g t c =
    zip_one_more (Worked g.T.GivenTasks.given (g.J.Job.kids_of c.args.job.now) (g.J.Job.stands c.args.job.now)) _ _ _ _ _ _
    c.in-Some.ensures.items c.in_ok-push-2.ensures.items
    (IfOk-at_ok (λ v. AllZip _ _ v.items) c.in_ok-all.was c.join-theirs.ensures.second) c.join-theirs.ensures.first
