-- A step at one route, among a worker's routes.
use Rattle.std.proofs.Common.{◌≡◌, ℕ, zero, suc, ◌<◌, List, [], ◌∷◌, set, get_or, length, map, arith, refl, ap, All}
use Rattle.std.proofs.lemmas.List.Elements.{All-head, All-tail, All-cons, All-nil}
use Rattle.gufi_pool.specs.declared.member.Route.{Route}
use Rattle.gufi_pool.specs.Members.{route_frame, HasShare}

module _ {X Y : Type 0} (f : X → Y) where
  -- a change that f does not see
  pub map-set_same : (l : List X) (i : ℕ) (a d : X) → i < length l → f a ≡ f (get_or l i d) → map f (set l i a) ≡ map f l
  map-set_same [] i a d lt e = refl
  map-set_same (x ∷ xs) zero a d lt e = ap (λ y. y ∷ map f xs) e
  map-set_same (x ∷ xs) (suc i) a d lt e = ap (λ ys. f x ∷ ys) (map-set_same xs i a d (omega arith) e)

module _ {T : Type 0} where
  -- a share stays
  pub shares_stay : (l m : List (Route T)) → map route_frame m ≡ map route_frame l → All HasShare l → All HasShare m
  shares_stay l [] e h = All-nil _
  shares_stay [] (y ∷ ys) e h = cc
  shares_stay (x ∷ xs) (y ∷ ys) e h =
      let first : route_frame y ≡ route_frame x = cc in
      let rest : map route_frame ys ≡ map route_frame xs = cc in
      let s = ap (λ p. p.1.0) first in
      All-cons HasShare y ys (let have = All-head HasShare x xs h in omega arith) (shares_stay xs ys rest (All-tail HasShare x xs h))

pub same_length : {X Y : Type 0} (f : X → Y) (l m : List X) → map f m ≡ map f l → length m ≡ length l
same_length f [] [] e = refl
same_length f (x ∷ xs) [] e = cc
same_length f [] (y ∷ ys) e = cc
same_length f (x ∷ xs) (y ∷ ys) e = let r = same_length f xs ys cc in omega arith
