use Rattle.gufi_pool.proofs.Rules.{pushes}
use Rattle.gufi_pool.proofs.work.push.Goals as goal

pub push_as-requires-clause-pushes : goal.push_as-requires-clause-pushes
push_as-requires-clause-pushes g c = pushes g.T.GivenTasks.given _ _ _ c.requires.share c.requires.given
