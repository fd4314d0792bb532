use Rattle.gufi_pool.proofs.Rules.{merges}
use Rattle.gufi_pool.proofs.member.Member.join.Goals as goal

pub absorb-requires-clause-rule : goal.absorb-requires-clause-rule
absorb-requires-clause-rule g c = merges g.T.GivenTasks.given _ _ _ _ c.requires.share
