use Rattle.std.proofs.Common.{◌≡◌, ◌∙◌, sym, subst, All}
use Rattle.gufi_pool.specs.Accounts.{whole}
use Rattle.gufi_pool.specs.Members.{routes_taken, but_pushed, but_share_and_routes, HaveRun}
use Rattle.gufi_pool.proofs.Zips.{map_through, sum_through}
use Rattle.gufi_pool.proofs.Starts.{new_shares, new_stolen, starts}
use Rattle.gufi_pool.proofs.start.start.Goals as goal

pub connect-requires-clause-shares : goal.connect-requires-clause-shares
connect-requires-clause-shares g c =
    subst (All (λ n. n ≡ whole)) (sym (map_through but_pushed (λ p. p.1.0.0) _ _ c.in_ok-deal.ensures.same)) (new_shares _ c.in_ok-members.ensures.new)

pub connect-requires-clause-unused : goal.connect-requires-clause-unused
connect-requires-clause-unused g c h = sum_through but_pushed (λ p. routes_taken h p.1.1.0) _ _ c.in_ok-deal.ensures.same ∙ new_stolen _ c.in_ok-members.ensures.new h

pub returns-clause-started : goal.returns-clause-started
returns-clause-started g c =
    let made = c.in_ok-connect.ensures in
    starts _ c.in_ok-members.ensures.new _ _ _ c.in_ok-deal.ensures.same c.in_ok-deal.ensures.pushed made.same made.shares made.leads made.unused

pub returns-clause-pieces : goal.returns-clause-pieces
returns-clause-pieces g c = λ ran has.
    let dealt = map_through but_pushed (λ p. p.1.1.1) _ _ c.in_ok-deal.ensures.same in
    let joined = map_through but_share_and_routes (λ p. p.1.1) _ _ c.in_ok-connect.ensures.same in
    subst (HaveRun (g.J.Job.stands c.args.job.now) ran) (sym (joined ∙ dealt)) (c.in_ok-members.ensures.pieces ran has)
