use Rattle.std.proofs.Common.{◌≡◌, ◌<◌, ◌+◌, ◌++◌, [], ◌∷◌, arith, length, map, ap, ◌∙◌, sym, get_or, sum_by, append_assoc, length-append}
use Rattle.std.proofs.lemmas.List.{length-map}
use Rattle.std.proofs.lemmas.List.Sums.{sum_by_push}
use Rattle.gufi_pool.specs.Members.{changed, new_route, route_view, route_frame, but_share_and_taken, member_share, member_deque}
use Rattle.gufi_pool.proofs.Zips.{changed_all, map_through}
use Rattle.gufi_pool.proofs.Rows.{changed_next, changed_step, made_at, made_within}
use Rattle.gufi_pool.proofs.gather.join_row.Goals as goal

pub join_at-requires-clause-lead : goal.join_at-requires-clause-lead
join_at-requires-clause-lead g c d =
    let items = c.loop-route.invariant.left ∙ ap (λ l. c.loop-route.yielded ++ l) c.in-Some.ensures.steps.0 in
    let same = map_through but_share_and_taken (λ p. p.0) _ _ c.loop-route.invariant.same in
    made_at route_frame new_route c.loop-route.yielded c.next.new.self.rest.items c.in-Some.route (map member_deque c.args.members.now.items) c.loop-route.k d (sym (ap (map route_frame) items) ∙ c.requires.leads) c.loop-route.invariant.count
    ∙ sym (ap (λ l. new_route (get_or l c.loop-route.k d)) same)

pub join_at-requires-clause-share : goal.join_at-requires-clause-share
join_at-requires-clause-share g c =
    let items = c.loop-route.invariant.left ∙ ap (λ l. c.loop-route.yielded ++ l) c.in-Some.ensures.steps.0 in
    let within = made_within route_frame new_route c.loop-route.yielded c.next.new.self.rest.items c.in-Some.route (map member_deque c.args.members.now.items) (sym (ap (map route_frame) items) ∙ c.requires.leads) in
    let long = length-map c.args.members.now.items member_share in
    let long' = length-map c.args.members.now.items member_deque in
    let at = c.loop-route.invariant.count in
    changed_next (λ n. n + 1) (map member_share c.args.members.now.items) _ c.loop-route.k (λ n. 0 < n) c.loop-route.invariant.shares (omega arith) c.requires.shares

pub loop-route-preserved : goal.loop-route-preserved
loop-route-preserved g c =
    let items = c.loop-route.invariant.left ∙ ap (λ l. c.loop-route.yielded ++ l) c.in-Some.ensures.steps.0 in
    let within = made_within route_frame new_route c.loop-route.yielded c.next.new.self.rest.items c.in-Some.route (map member_deque c.args.members.now.items) (sym (ap (map route_frame) items) ∙ c.requires.leads) in
    let long = length-map c.args.members.now.items member_share in
    let long' = length-map c.args.members.now.items member_deque in
    let at = c.loop-route.invariant.count in
    record {
      count = omega (arith, length-append c.loop-route.yielded (c.in-Some.route ∷ []));
      left = items ∙ sym (append_assoc c.loop-route.yielded (c.in-Some.route ∷ []) c.next.new.self.rest.items);
      same = c.join_at.ensures.same ∙ c.loop-route.invariant.same;
      shares = changed_step (λ n. n + 1) (map member_share c.args.members.now.items) _ c.loop-route.k _ c.loop-route.invariant.shares (omega arith) c.join_at.ensures.shares;
      taken = λ h.
          let new = c.join_at.ensures.taken h in
          let old = c.loop-route.invariant.taken h in
          omega (arith, sum_by_push (λ r. sum_by h (route_view r).taken) c.loop-route.yielded c.in-Some.route);
    }

pub returns-clause-shares : goal.returns-clause-shares
returns-clause-shares g c =
    let long = length-map c.args.members.now.items member_share in
    let long' = length-map c.args.members.now.items member_deque in
    let n = ap length c.requires.leads in
    let ok = c.loop-route.route-iterator.rest.ok in
    let left = ap length c.loop-route.invariant.left in
    let none = c.in-None.ensures.steps.0 in
    let at = c.loop-route.invariant.count in
    let all : c.loop-route.k ≡ length (map member_share c.args.members.now.items) =
    omega (arith, length-append c.loop-route.yielded c.loop-route.route-iterator.rest.items, length-map c.args.routes.items route_frame, length-map (map member_deque c.args.members.now.items) new_route)
    in
    c.loop-route.invariant.shares ∙ ap (λ n. changed (λ m. m + 1) n (map member_share c.args.members.now.items)) all ∙ changed_all (λ m. m + 1) (map member_share c.args.members.now.items)
