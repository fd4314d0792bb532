use Rattle.gufi_pool.proofs.Rules.{takes, pops, finds}
use Rattle.gufi_pool.proofs.work.pop.Goals as goal

pub pop_as-requires-clause-fifo : goal.pop_as-requires-clause-fifo
pop_as-requires-clause-fifo g c = λ _. takes g.T.GivenTasks.given _ _ 1 c.requires

pub pop_as-requires-clause-lifo : goal.pop_as-requires-clause-lifo
pop_as-requires-clause-lifo g c = λ _. pops g.T.GivenTasks.given _ _ c.requires

pub pop_as-requires-clause-empty : goal.pop_as-requires-clause-empty
pop_as-requires-clause-empty g c = finds g.T.GivenTasks.given _ _
