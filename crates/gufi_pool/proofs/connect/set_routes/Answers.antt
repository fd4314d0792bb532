use Rattle.std.proofs.Common.{ap}
use Rattle.gufi_pool.specs.Members.{but_routes, route_frames}
use Rattle.gufi_pool.proofs.Routes.{map-set_same}
use Rattle.gufi_pool.proofs.Zips.{map-set}
use Rattle.gufi_pool.proofs.connect.set_routes.Goals as goal

pub returns-clause-same : goal.returns-clause-same
returns-clause-same g c = map-set_same but_routes _ _ _ c.index_mut.result.now c.requires (ap but_routes c.index_mut.ensures.value)

pub returns-clause-leads : goal.returns-clause-leads
returns-clause-leads g c = map-set route_frames _ _ _
