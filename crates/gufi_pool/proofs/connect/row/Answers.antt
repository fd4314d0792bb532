use Rattle.std.proofs.Common.{◌≡◌, ◌<◌, ◌-◌, ◌++◌, ◌∷◌, [], arith, length, map, ap, ◌∙◌, get_or, sum_by}
use Rattle.std.proofs.lemmas.List.{length-map}
use Rattle.std.proofs.lemmas.List.Sums.{sum_by_push}
use Rattle.gufi_pool.specs.Members.{changed, new_route, route_view, route_frame, routes_taken, but_share, member_share, member_deque}
use Rattle.gufi_pool.proofs.Zips.{changed_all, map_through}
use Rattle.gufi_pool.proofs.Rows.{changed_next, changed_step, made_more}
use Rattle.gufi_pool.proofs.connect.row.Goals as goal

pub route_to-requires-clause-share : goal.route_to-requires-clause-share
route_to-requires-clause-share g c =
    let long = length-map c.args.members.now.items member_share in
    changed_next (λ n. n - 1) (map member_share c.args.members.now.items) _ c.loop-k.k (λ n. 1 < n) c.loop-k.invariant.shares (omega arith) c.requires

pub loop-k-preserved : goal.loop-k-preserved
loop-k-preserved g c =
    let long = length-map c.args.members.now.items member_share in
    let long' = length-map c.args.members.now.items member_deque in
    let d = (route_frame c.in_ok-route.route).0 in
    let items : c.push.new.self.items ≡ c.loop-k.routes.items ++ c.in_ok-route.route ∷ [] = c.in_ok-push.ensures.items in
    record {
      count = c.loop-k.invariant.count;
      same = c.in_ok-route.ensures.same ∙ c.loop-k.invariant.same;
      shares = changed_step (λ n. n - 1) (map member_share c.args.members.now.items) _ c.loop-k.k _ c.loop-k.invariant.shares (omega arith) c.in_ok-route.ensures.shares;
      row = made_more route_frame new_route (map member_deque c.args.members.now.items) c.loop-k.k c.loop-k.routes.items c.push.new.self.items c.in_ok-route.route d c.loop-k.invariant.row (omega arith)
          (c.in_ok-route.ensures.route d ∙ ap (λ l. new_route (get_or l c.loop-k.k d)) (map_through but_share (λ p. p.0) _ _ c.loop-k.invariant.same)) items;
      taken = λ h.
          let e = ap (routes_taken h) items in
          let none = ap (sum_by h) c.in_ok-route.ensures.taken in
          let old = c.loop-k.invariant.taken h in
          omega (arith, sum_by_push (λ r. sum_by h (route_view r).taken) c.loop-k.routes.items c.in_ok-route.route);
    }

pub returns-clause-shares : goal.returns-clause-shares
returns-clause-shares g c =
    let long = length-map c.args.members.now.items member_share in
    let all : c.loop-k.k ≡ length (map member_share c.args.members.now.items) = omega arith in
    c.loop-k.invariant.shares ∙ ap (λ n. changed (λ m. m - 1) n (map member_share c.args.members.now.items)) all ∙ changed_all (λ m. m - 1) (map member_share c.args.members.now.items)
