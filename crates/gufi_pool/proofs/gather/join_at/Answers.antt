use Rattle.std.proofs.Common.{◌+◌, ap, ◌∙◌, sym, set, map}
use Rattle.gufi_pool.specs.Members.{new_route, but_share_and_taken, member_share, member_deque}
use Rattle.gufi_pool.proofs.Routes.{map-set_same}
use Rattle.gufi_pool.proofs.Zips.{map-set, get_or-map}
use Rattle.gufi_pool.proofs.gather.join_at.Goals as goal

pub join-requires-clause-lead : goal.join-requires-clause-lead
join-requires-clause-lead g c =
    let d = member_deque c.index_mut.result.now in
    c.requires.lead d ∙ ap new_route (get_or-map member_deque c.args.members.now.items c.args.k c.index_mut.result.now d c.requires.at ∙ sym (ap member_deque c.index_mut.ensures.value))

pub returns-clause-same : goal.returns-clause-same
returns-clause-same g c = map-set_same but_share_and_taken _ _ _ c.index_mut.result.now c.requires.at (c.join.ensures.same ∙ ap but_share_and_taken c.index_mut.ensures.value)

pub returns-clause-shares : goal.returns-clause-shares
returns-clause-shares g c =
    map-set member_share c.args.members.now.items c.args.k c.join.new.self
    ∙ ap (λ n. set (map member_share c.args.members.now.items) c.args.k n)
    (c.join.ensures.share ∙ ap (λ n. n + 1) (ap member_share c.index_mut.ensures.value ∙ sym (get_or-map member_share c.args.members.now.items c.args.k c.index_mut.result.now 0 c.requires.at)))
