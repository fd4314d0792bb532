use Rattle.std.proofs.Common.{ap, ◌∙◌}
use Rattle.gufi_pool.specs.Members.{route_frame}
use Rattle.gufi_pool.proofs.Routes.{map-set_same}
use Rattle.gufi_pool.proofs.work.steal_at.Goals as goal

pub returns-clause-same : goal.returns-clause-same
returns-clause-same g c = map-set_same route_frame _ _ _ c.index_mut.result.now c.requires.at (c.steal.ensures.same ∙ ap route_frame c.index_mut.ensures.value)
