-- Workers before they work, and the frame that work leaves.
use Rattle.std.proofs.Common.{◌≡◌, ℕ, ◌+◌, ◌≤◌, List, [], ◌∷◌, map, length, get_or, arith, sum_by, refl, sym, ap, ◌∙◌, subst, All}
use Rattle.std.specs.List.{AllZip}
use Rattle.std.proofs.lemmas.List.{length-map}
use Rattle.std.proofs.lemmas.List.Sums.{sum_by-cons}
use Rattle.std.proofs.lemmas.List.Elements.{All-map, All-weaker, All-nil, All-cons, All-head, All-tail}
use Rattle.gufi_pool.specs.declared.rule.Account.{Account}
use Rattle.gufi_pool.specs.declared.member.Route.{Route}
use Rattle.gufi_pool.specs.declared.member.Member.{Member}
use Rattle.gufi_pool.specs.Accounts.{whole, Weight}
use Rattle.gufi_pool.specs.Members.{Deque, new_route, route_frame, routes_taken, HasShare, member_deque, member_share, route_frames, member_routes, member_pushed, own_taken, member_stolen, IsNew, IsReady, IsHome, IsSettled, SameFrame, Worked, Finished, Started, but_pushed, but_share_and_routes}
use Rattle.gufi_pool.proofs.Routes.{same_length}
use Rattle.gufi_pool.proofs.Sums.{sum_by_plus}
use Rattle.gufi_pool.proofs.Zips.{map_through, sum_through, get_or-map}

sum_zero : {X : Type 0} (f : X → ℕ) (xs : List X) → All (λ x. f x ≡ 0) xs → sum_by f xs ≡ 0
sum_zero f [] all = refl
sum_zero f (x ∷ xs) all =
    let mine = All-head (λ y. f y ≡ 0) x xs all in
    let rest = sum_zero f xs (All-tail (λ y. f y ≡ 0) x xs all) in
    omega (arith, sum_by-cons f x xs)

module _ {T P : Type 0} (new : List (Member T P)) (are : All IsNew new) where
  pub new_shares : All (λ n. n ≡ whole) (map member_share new)
  new_shares = All-map (λ n. n ≡ whole) member_share new (All-weaker IsNew (λ c. member_share c ≡ whole) (λ c is. ap (λ (v : Account). v.share) is.view) new are)

  pub new_stolen : (h : Weight) → sum_by (member_stolen h) new ≡ 0
  new_stolen h = sum_zero (member_stolen h) new (All-weaker IsNew (λ c. member_stolen h c ≡ 0) (λ c is. ap (routes_taken h) is.routes) new are)

  new_pushed : (h : Weight) → sum_by (member_pushed h) new ≡ 0
  new_pushed h = sum_zero (member_pushed h) new (All-weaker IsNew (λ c. member_pushed h c ≡ 0) (λ c is. ap (λ (v : Account). sum_by h v.pushed) is.view) new are)

  new_taken : (h : Weight) → sum_by (own_taken h) new ≡ 0
  new_taken h = sum_zero (own_taken h) new (All-weaker IsNew (λ c. own_taken h c ≡ 0) (λ c is. ap (λ (v : Account). sum_by h v.taken) is.view) new are)

  -- what dealing and making routes comes to
  pub starts : (first : List ℕ) (dealt joined : List (Member T P)) → map but_pushed dealt ≡ map but_pushed new → ((h : Weight) → sum_by (member_pushed h) dealt ≡ sum_by (member_pushed h) new + sum_by h first)
      → map but_share_and_routes joined ≡ map but_share_and_routes dealt → All (λ n. n + length dealt ≡ whole) (map member_share joined) → All (λ l. l ≡ map new_route (map member_deque dealt)) (map route_frames joined)
      → ((h : Weight) → sum_by (member_stolen h) joined ≡ 0) → Started first joined
  starts first dealt joined same pushed same' shares leads unused = record {
    pushed = λ h.
        let a = sum_through but_share_and_routes (λ p. sum_by h p.1.0.0) dealt joined same' in
        let b = pushed h in
        let z = new_pushed h in
        omega arith;
    taken = λ h.
        let a = sum_through but_share_and_routes (λ p. sum_by h p.1.0.1) dealt joined same' in
        let b = sum_through but_pushed (λ p. sum_by h p.1.0.1) new dealt same in
        let z = new_taken h in
        let u = unused h in
        omega (arith, sum_by_plus (own_taken h) (member_stolen h) joined);
    shares = let n = same_length but_share_and_routes dealt joined same' in subst (λ n. All (λ m. m + n ≡ whole) (map member_share joined)) (sym n) shares;
    leads = subst (λ ds. All (λ l. l ≡ map new_route ds) (map route_frames joined)) (sym (map_through but_share_and_routes (λ p. p.0) dealt joined same')) leads;
  }

module _ {T : Type 0} where
  lead_shares : (rs : List (Route T)) (ds : List Deque) → map route_frame rs ≡ map new_route ds → All HasShare rs
  lead_shares [] ds e = All-nil HasShare
  lead_shares (r ∷ rs) [] e = cc
  lead_shares (r ∷ rs) (d ∷ ds) e =
      let first : route_frame r ≡ new_route d = cc in
      let rest : map route_frame rs ≡ map new_route ds = cc in
      let share = ap (λ p. p.1.0) first in
      All-cons HasShare r rs (omega arith) (lead_shares rs ds rest)

  pub no_routes : (h : Weight) (rs : List (Route T)) → map route_frame rs ≡ [] → routes_taken h rs ≡ 0
  no_routes h [] e = refl
  no_routes h (r ∷ rs) e = cc

  module _ {P : Type 0} where
    pub ready_all : {first : List ℕ} (members : List (Member T P)) → Started first members → length members ≤ 32 → All IsReady members
    ready_all members s few k d lt =
        let n = length-map members member_share in
        let m = length-map members route_frames in
        let none : List (Deque × (ℕ × List ℕ)) = [] in
        record {
          own = let a = s.shares k 0 (omega arith) in let b = get_or-map member_share members k d 0 lt in omega arith;
          routes = lead_shares (get_or members k d).routes.items (map member_deque members) (sym (get_or-map route_frames members k d none lt) ∙ s.leads k none (omega arith));
        }

    pub home_all : (members : List (Member T P)) → All (λ n. n ≡ whole) (map member_share members) → All (λ l. l ≡ []) (map member_routes members) → All IsHome members
    home_all members shares empty k d lt =
        let n = length-map members member_share in
        let m = length-map members member_routes in
        let none : List (Route T) = [] in
        record {
          share = sym (get_or-map member_share members k d 0 lt) ∙ shares k 0 (omega arith);
          routes = sym (get_or-map member_routes members k d none lt) ∙ empty k none (omega arith);
        }

    abbrev pub frame : Member T P → Deque × (ℕ × List (Deque × (ℕ × List ℕ)))
    frame c = (member_deque c, (member_share c, route_frames c))

    frame_same : (a b : Member T P) → SameFrame a b → frame b ≡ frame a
    frame_same a b s = let o = s.own in let n = s.share in let r = s.routes in cc

    pub frames_stay : (given : List ℕ) (kids : ℕ → List ℕ) (stands : P → List ℕ → Type 0) (xs ys : List (Member T P)) → AllZip (Worked given kids stands) xs ys → map frame ys ≡ map frame xs
    frames_stay given kids stands [] [] z = refl
    frames_stay given kids stands [] (y ∷ ys) z = absurd z
    frames_stay given kids stands (x ∷ xs) [] z = absurd z
    frames_stay given kids stands (x ∷ xs) (y ∷ ys) z = let a = frame_same x y z.0.frame in let b = frames_stay given kids stands xs ys z.1 in cc

    pub finished_one : {given : List ℕ} {kids : ℕ → List ℕ} {stands : P → List ℕ → Type 0} (a b : Member T P) → IsHome a → Worked given kids stands a b → IsSettled b → Finished given kids stands a b.piece
    finished_one {given} {kids} {stands} a b home w settled = record {
      more = w.more;
      allowed = w.allowed;
      stands_for = w.piece;
      balanced = λ h.
          let p = w.pushed h in
          let t = w.taken h in
          let none = no_routes h b.routes.items (w.frame.routes ∙ ap (map route_frame) home.routes) in
          let all = settled (w.frame.share ∙ home.share) h in
          omega arith;
    }
