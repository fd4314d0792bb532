use Rattle.std.proofs.Common.{ap, arith}
use Rattle.gufi_pool.proofs.Rules.{takes}
use Rattle.gufi_pool.proofs.member.Route.steal.Goals as goal

pub steal_as-requires-clause-takes : goal.steal_as-requires-clause-takes
steal_as-requires-clause-takes g c = takes g.T.GivenTasks.given _ _ 1 (let e = ap (λ v. v.share) c.loop.invariant.view in omega (arith, c.requires))
