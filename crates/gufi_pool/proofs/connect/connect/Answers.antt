use Rattle.std.proofs.Common.{◌≡◌, ◌-◌, ◌+◌, arith, length, map, ap, ◌∙◌, sym, subst, All, set, refl}
use Rattle.std.proofs.lemmas.List.{length-map}
use Rattle.std.proofs.lemmas.List.Elements.{All-map, All-weaker}
use Rattle.gufi_pool.specs.Accounts.{whole}
use Rattle.gufi_pool.specs.Members.{changed, new_route, route_frame, routes_taken, but_share, but_routes, but_share_and_routes, member_share, member_deque, route_frames}
use Rattle.gufi_pool.proofs.Routes.{same_length}
use Rattle.gufi_pool.proofs.Zips.{changed_all, map_through, sum_through}
use Rattle.gufi_pool.proofs.Rows.{filled_step}
use Rattle.gufi_pool.proofs.connect.connect.Goals as goal

pub set_routes-requires : goal.set_routes-requires
set_routes-requires g c =
    let n = same_length but_share_and_routes _ _ c.loop-k.invariant.same in
    let m = same_length but_share _ _ c.in_ok-routes.ensures.same in
    omega arith

pub loop-k-preserved : goal.loop-k-preserved
loop-k-preserved g c =
    let made = c.in_ok-routes.ensures in
    let n = same_length but_share_and_routes _ _ c.loop-k.invariant.same in
    let long = length-map c.args.members.now.items route_frames in
    record {
      count = c.loop-k.invariant.count;
      same =
          map_through but_routes (λ p. (p.0, ((p.1.0.pushed, p.1.0.taken), p.1.1))) _ _ c.set_routes.ensures.same
          ∙ map_through but_share (λ p. (p.0, (p.1.0, p.1.1.1))) _ _ made.same
          ∙ c.loop-k.invariant.same;
      shares =
          let same : map member_share c.set_routes.new.members.items ≡ map member_share c.row.new.members.items = map_through but_routes (λ p. p.1.0.share) _ _ c.set_routes.ensures.same in
          subst (All (λ n. n + (c.loop-k.k + 1) ≡ whole)) (sym (same ∙ made.shares))
          (All-map (λ n. n + (c.loop-k.k + 1) ≡ whole) (λ n. n - 1) (map member_share c.loop-k.members.items)
          (All-weaker (λ n. n + c.loop-k.k ≡ whole) (λ n. n - 1 + (c.loop-k.k + 1) ≡ whole) (λ n is. omega arith) (map member_share c.loop-k.members.items) c.loop-k.invariant.shares));
      leads =
          filled_step (map new_route (map member_deque c.args.members.now.items)) (map route_frames c.args.members.now.items) (map route_frames c.loop-k.members.items) c.loop-k.k (map route_frames c.set_routes.new.members.items)
          c.loop-k.invariant.leads (omega arith)
          (c.set_routes.ensures.leads ∙ ap (λ l. set l c.loop-k.k (map route_frame c.in_ok-routes.routes.items)) (map_through but_share (λ p. map route_frame p.1.1.0) _ _ made.same)
          ∙ ap (λ l. set (map route_frames c.loop-k.members.items) c.loop-k.k l) (made.row ∙ ap (map new_route) (map_through but_share_and_routes (λ p. p.0) _ _ c.loop-k.invariant.same)));
      unused = λ h.
          let le = c.set_routes.ensures.stolen h in
          let same = sum_through but_share (λ p. routes_taken h p.1.1.0) _ _ made.same in
          let none = made.taken h in
          let old = c.loop-k.invariant.unused h in
          omega arith;
    }

pub returns-clause-leads : goal.returns-clause-leads
returns-clause-leads g c =
    let x = map new_route (map member_deque c.args.members.now.items) in
    let long = length-map c.args.members.now.items route_frames in
    let all : c.loop-k.k ≡ length (map route_frames c.args.members.now.items) = omega arith in
    subst (All (λ l. l ≡ x)) (sym (c.loop-k.invariant.leads ∙ ap (λ n. changed (λ _. x) n (map route_frames c.args.members.now.items)) all ∙ changed_all (λ _. x) (map route_frames c.args.members.now.items)))
    (All-map (λ l. l ≡ x) (λ _. x) (map route_frames c.args.members.now.items) (λ i d lt. refl))
