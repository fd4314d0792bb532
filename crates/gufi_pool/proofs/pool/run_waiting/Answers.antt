use Rattle.std.proofs.Common.{◌≡◌, ◌+◌, ◌∙◌, sym, subst, All, map, length, arith}
use Rattle.std.proofs.lemmas.Result.{IfOk-weaker}
use Rattle.gufi_pool.specs.Accounts.{whole}
use Rattle.gufi_pool.specs.Members.{new_route, own_deque_and_piece, member_share, member_deque, route_frames}
use Rattle.gufi_pool.proofs.Routes.{same_length}
use Rattle.gufi_pool.proofs.Zips.{map_through, zip_length}
use Rattle.gufi_pool.proofs.Starts.{ready_all, home_all, frame, frames_stay}
use Rattle.gufi_pool.proofs.Totals.{all_ran, pieces_before, pieces_after}
use Rattle.gufi_pool.proofs.pool.run_waiting.Goals as goal

pub work_all-requires-clause-ready : goal.work_all-requires-clause-ready
work_all-requires-clause-ready g c κs within = let n = c.in_ok-members.ensures.count in ready_all _ c.in_ok-members.ensures.started (omega arith)

pub gather-requires-clause-some : goal.gather-requires-clause-some
gather-requires-clause-some g c =
    let n = c.in_ok-members.ensures.count in
    let m = zip_length _ _ _ c.in_ok-members-2.ensures in
    omega arith

pub gather-requires-clause-shares : goal.gather-requires-clause-shares
gather-requires-clause-shares g c =
    let same = frames_stay _ _ _ _ _ c.in_ok-members-2.ensures in
    subst (λ ns. All (λ n. n + length c.in_ok-members-2.members.items ≡ whole) ns) (sym (map_through frame (λ p. p.1.0) _ _ same))
    (subst (λ m. All (λ n. n + m ≡ whole) (map member_share c.in_ok-members.members.items)) (sym (same_length frame _ _ same)) c.in_ok-members.ensures.started.shares)

pub gather-requires-clause-leads : goal.gather-requires-clause-leads
gather-requires-clause-leads g c =
    let same = frames_stay _ _ _ _ _ c.in_ok-members-2.ensures in
    subst (λ ls. All (λ l. l ≡ map new_route (map member_deque c.in_ok-members-2.members.items)) ls) (sym (map_through frame (λ p. p.1.1) _ _ same))
    (subst (λ ds. All (λ l. l ≡ map new_route ds) (map route_frames c.in_ok-members.members.items)) (sym (map_through frame (λ p. p.0) _ _ same)) c.in_ok-members.ensures.started.leads)

pub settle-requires-clause-home : goal.settle-requires-clause-home
settle-requires-clause-home g c κs within = home_all _ c.gather.ensures.shares c.gather.ensures.empty

pub returns-clause-count : goal.returns-clause-count
returns-clause-count g c =
    let n = c.in_ok-members.ensures.count in
    let m = zip_length _ _ _ c.in_ok-members-2.ensures in
    let k = same_length own_deque_and_piece _ _ c.gather.ensures.same in
    IfOk-weaker c.settle.result _ _ (λ v finished. zip_length _ _ _ finished ∙ k ∙ m ∙ n) c.settle.ensures

pub work_all-requires-clause-stood : goal.work_all-requires-clause-stood
work_all-requires-clause-stood g c κs within =
    pieces_before g.T.GivenTasks.given (g.J.Job.kids_of c.args.job.now) (g.J.Job.stands c.args.job.now) c.requires.stood.0 _ (c.in_ok-members.ensures.pieces c.requires.stood.0 c.requires.stood.1)

pub settle-requires-clause-stood : goal.settle-requires-clause-stood
settle-requires-clause-stood g c κs within =
    pieces_after g.T.GivenTasks.given (g.J.Job.kids_of c.args.job.now) (g.J.Job.stands c.args.job.now) c.requires.stood.0 _ _ _ (c.in_ok-members.ensures.pieces c.requires.stood.0 c.requires.stood.1) c.in_ok-members-2.ensures c.gather.ensures.same

pub returns-clause-ran : goal.returns-clause-ran
returns-clause-ran g c =
    IfOk-weaker c.settle.result _ _
    (λ v finished ran has. all_ran g.T.GivenTasks.given (g.J.Job.kids_of c.args.job.now) (g.J.Job.stands c.args.job.now) ran c.args.waiting.now _ _ _ _ (c.in_ok-members.ensures.pieces ran has) c.in_ok-members.ensures.started c.in_ok-members-2.ensures c.gather.ensures.same
    c.gather.ensures.taken finished)
    c.settle.ensures
