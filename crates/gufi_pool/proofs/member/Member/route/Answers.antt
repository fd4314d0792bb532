use Rattle.gufi_pool.proofs.Rules.{forks}
use Rattle.gufi_pool.proofs.member.Member.route.Goals as goal

pub another-pass-requires : goal.another-pass-requires
another-pass-requires g c = forks g.T.GivenTasks.given _ _ c.requires
