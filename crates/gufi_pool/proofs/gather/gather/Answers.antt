use Rattle.std.proofs.Common.{◌≡◌, ◌<◌, ◌+◌, [], List, ℕ, arith, length, map, ap, ◌∙◌, sym, get_or, sum_by, subst, All, refl}
use Rattle.std.proofs.lemmas.List.{length-map}
use Rattle.std.proofs.lemmas.List.Elements.{All-map, All-weaker}
use Rattle.gufi_pool.specs.Accounts.{whole}
use Rattle.gufi_pool.specs.Members.{Deque, changed, new_route, route_frame, routes_taken, but_share_and_taken, but_routes, own_deque_and_piece, own_taken, member_share, route_frames, member_routes, member_stolen}
use Rattle.gufi_pool.proofs.Routes.{same_length}
use Rattle.gufi_pool.proofs.Zips.{changed_all, changed_here, get_or-map, map_through, sum_through, map_map}
use Rattle.gufi_pool.proofs.Sums.{sum_by_plus}
use Rattle.gufi_pool.proofs.Rows.{filled_step}
use Rattle.gufi_pool.proofs.gather.gather.Goals as goal

pub join_row-requires-clause-leads : goal.join_row-requires-clause-leads
join_row-requires-clause-leads g c =
    let k = c.loop-k.k in
    let all = map member_routes c.args.members.now.items in
    let long = length-map c.args.members.now.items member_routes in
    let long' = length-map c.args.members.now.items route_frames in
    let none : List (Deque × (ℕ × List ℕ)) = [] in
    let taken : c.take_at-routes.result.items ≡ get_or all k [] = c.take_at-routes.ensures.routes [] ∙ ap (λ l. get_or l k []) c.loop-k.invariant.routes ∙ changed_here (λ _. []) k all [] in
    let lead : map route_frame (get_or all k []) ≡ get_or (map route_frames c.args.members.now.items) k none =
    sym (ap (λ l. get_or l k none) (sym (map_map member_routes (map route_frame) c.args.members.now.items)) ∙ get_or-map (map route_frame) all k [] none (omega arith)) in
    ap (map route_frame) taken ∙ lead ∙ c.requires.leads k none (omega arith)
    ∙ sym (ap (map new_route) (map_through but_routes (λ p. p.0) _ _ c.take_at-routes.ensures.same ∙ map_through own_deque_and_piece (λ p. p.0) _ _ c.loop-k.invariant.same))

pub join_row-requires-clause-shares : goal.join_row-requires-clause-shares
join_row-requires-clause-shares g c =
    subst (All (λ n. 0 < n)) (sym (map_through but_routes (λ p. p.1.0.share) _ _ c.take_at-routes.ensures.same))
    (All-weaker (λ n. n + length c.args.members.now.items ≡ whole + c.loop-k.k) (λ n. 0 < n) (λ n is. omega arith) (map member_share c.loop-k.members.items) c.loop-k.invariant.shares)

pub loop-k-preserved : goal.loop-k-preserved
loop-k-preserved g c =
    let n = same_length own_deque_and_piece _ _ c.loop-k.invariant.same in
    let long = length-map c.args.members.now.items member_routes in
    record {
      count = c.loop-k.invariant.count;
      same =
          map_through but_share_and_taken (λ p. (p.0, (p.1.0, p.1.1.1))) _ _ c.join_row.ensures.same
          ∙ map_through but_routes (λ p. (p.0, (p.1.0.pushed, p.1.1))) _ _ c.take_at-routes.ensures.same
          ∙ c.loop-k.invariant.same;
      shares =
          let same : map member_share c.take_at-routes.new.members.items ≡ map member_share c.loop-k.members.items = map_through but_routes (λ p. p.1.0.share) _ _ c.take_at-routes.ensures.same in
          subst (All (λ n. n + length c.args.members.now.items ≡ whole + (c.loop-k.k + 1))) (sym (c.join_row.ensures.shares ∙ ap (map (λ n. n + 1)) same))
          (All-map (λ n. n + length c.args.members.now.items ≡ whole + (c.loop-k.k + 1)) (λ n. n + 1) (map member_share c.loop-k.members.items)
          (All-weaker (λ n. n + length c.args.members.now.items ≡ whole + c.loop-k.k) (λ n. n + 1 + length c.args.members.now.items ≡ whole + (c.loop-k.k + 1)) (λ n is. omega arith) (map member_share c.loop-k.members.items) c.loop-k.invariant.shares));
      routes =
          filled_step [] (map member_routes c.args.members.now.items) (map member_routes c.loop-k.members.items) c.loop-k.k (map member_routes c.join_row.new.members.items) c.loop-k.invariant.routes (omega arith)
          (map_through but_share_and_taken (λ p. p.1.1.0) _ _ c.join_row.ensures.same ∙ c.take_at-routes.ensures.empty);
      taken = λ h.
          let joined = c.join_row.ensures.taken h in
          let own = sum_through but_routes (λ p. sum_by h p.1.0.taken) _ _ c.take_at-routes.ensures.same in
          let stolen = sum_through but_share_and_taken (λ p. routes_taken h p.1.1.0) _ _ c.join_row.ensures.same in
          let moved = c.take_at-routes.ensures.stolen h in
          let old = c.loop-k.invariant.taken h in
          omega arith;
    }

pub returns-clause-empty : goal.returns-clause-empty
returns-clause-empty g c =
    let long = length-map c.args.members.now.items member_routes in
    let all : c.loop-k.k ≡ length (map member_routes c.args.members.now.items) = omega arith in
    subst (All (λ l. l ≡ [])) (sym (c.loop-k.invariant.routes ∙ ap (λ n. changed (λ _. []) n (map member_routes c.args.members.now.items)) all ∙ changed_all (λ _. []) (map member_routes c.args.members.now.items)))
    (All-map (λ l. l ≡ []) (λ _. []) (map member_routes c.args.members.now.items) (λ i d lt. refl))

pub returns-clause-taken : goal.returns-clause-taken
returns-clause-taken g c h =
    let all = c.loop-k.invariant.taken h in
    omega (arith, sum_by_plus (own_taken h) (member_stolen h) c.loop-k.members.items, sum_by_plus (own_taken h) (member_stolen h) c.args.members.now.items)
