use Rattle.std.proofs.Common.{ap, ◌∙◌, set, map}
use Rattle.gufi_pool.specs.Members.{but_routes, member_routes}
use Rattle.gufi_pool.proofs.Routes.{map-set_same}
use Rattle.gufi_pool.proofs.Zips.{map-set}
use Rattle.gufi_pool.proofs.gather.take_at.Goals as goal

pub returns-clause-same : goal.returns-clause-same
returns-clause-same g c = map-set_same but_routes _ _ _ c.index_mut.result.now c.requires (c.take_routes.ensures.same ∙ ap but_routes c.index_mut.ensures.value)

pub returns-clause-empty : goal.returns-clause-empty
returns-clause-empty g c = map-set member_routes c.args.members.now.items c.args.k c.take_routes.new.self ∙ ap (λ x. set (map member_routes c.args.members.now.items) c.args.k x) c.take_routes.ensures.empty
