use Rattle.std.proofs.Common.{◌-◌, ap, ◌∙◌, sym, set, map}
use Rattle.std.proofs.lemmas.Result.{on_ok_weaker}
use Rattle.gufi_pool.specs.Members.{but_share, member_share}
use Rattle.gufi_pool.proofs.Routes.{map-set_same}
use Rattle.gufi_pool.proofs.Zips.{map-set, get_or-map}
use Rattle.gufi_pool.proofs.connect.route_to.Goals as goal

pub returns-clause-same : goal.returns-clause-same
returns-clause-same g c = on_ok_weaker c.route.result (λ same. map-set_same but_share _ _ _ c.index_mut.result.now c.requires.at (same ∙ ap but_share c.index_mut.ensures.value)) c.route.ensures.same

pub returns-clause-shares : goal.returns-clause-shares
returns-clause-shares g c = on_ok_weaker c.route.result
    (λ lower.
    map-set member_share c.args.members.now.items c.args.k c.route.new.self
    ∙ ap (λ n. set (map member_share c.args.members.now.items) c.args.k n) (lower ∙ ap (λ n. n - 1) (ap member_share c.index_mut.ensures.value ∙ sym (get_or-map member_share c.args.members.now.items c.args.k c.index_mut.result.now 0 c.requires.at))))
    c.route.ensures.share
