use Rattle.std.proofs.Common.{◌<◌, arith}
use Rattle.gufi_pool.specs.Members.{but_pushed}
use Rattle.gufi_pool.proofs.Routes.{same_length}
use Rattle.gufi_pool.proofs.Zips.{all_through}
use Rattle.gufi_pool.proofs.start.deal.Goals as goal

pub deal_one-requires-clause-at : goal.deal_one-requires-clause-at
deal_one-requires-clause-at g c =
    let below = c.share_of-share.ensures.all c.loop-i.i c.loop-i-test.true in
    omega (arith, below, same_length but_pushed _ _ c.loop-i.invariant.same, c.args.members.now.ok.0, c.len.ensures)

pub deal_one-requires-clause-shares : goal.deal_one-requires-clause-shares
deal_one-requires-clause-shares g c = all_through but_pushed (λ p. 0 < p.1.0.0) _ _ c.loop-i.invariant.same c.requires.shares
