-- What a worker has pushed, taken and run, over its passes to all deques.
use Rattle.std.specs.Prelude.{◌≡◌, ℕ, zero, suc, ◌+◌, ◌<◌, List, [], ◌∷◌, ◌++◌, All, Contains, sum_by, map, length}
use Rattle.std.specs.List.{AllZip, concat}
use Rattle.std.specs.Global.{Global}
use Rattle.atomic_blocks.specs.Lent.{RowsId}
use Rattle.crossbeam_deque.specs.Handles.{view, stealer_deque, worker_deque, worker_view}
use Rattle.gufi_pool.specs.declared.rule.Account.{Account}
use Rattle.gufi_pool.specs.declared.member.Route.{Route}
use Rattle.gufi_pool.specs.declared.member.Member.{Member}
use Rattle.gufi_pool.specs.Accounts.{account, whole, Weight, Settled}
use Rattle.gufi_pool.specs.Jobs.{kids_weigh}

-- a pass with one task more that it pushed, or took
abbrev pub pushed_one : Account → ℕ → Account
pushed_one v task = account v.share (v.pushed ++ task ∷ []) v.taken

abbrev pub took_one : Account → ℕ → Account
took_one v task = account v.share v.pushed (v.taken ++ task ∷ [])

-- which deque
abbrev pub Deque : Type 0
Deque = RowsId × Global

-- the frame of a route as it is made
abbrev pub new_route : Deque → Deque × (ℕ × List ℕ)
new_route d = (d, (1, []))

-- the first k members are changed
abbrev pub changed : {X : Type 0} → (X → X) → ℕ → List X → List X
changed f zero xs = xs
changed f (suc k) [] = []
changed f (suc k) (x ∷ xs) = f x ∷ changed f k xs

-- the pieces stand for lists that are these tasks together
pub record HaveRun {P : Type 0} (stands : P → List ℕ → Type 0) (ran : List ℕ) (pieces : List P) : Type 0 where
  pub lists : List (List ℕ)
  pub each : AllZip stands pieces lists
  pub all : concat lists ≡ ran

-- the pieces stand for the tasks that had run before, those that waited, and all that the latter bring forth
pub record HaveRunOn {P : Type 0} (given : List ℕ) (kids : ℕ → List ℕ) (stands : P → List ℕ → Type 0) (before waiting : List ℕ) (pieces : List P) : Type 0 where
  pub lists : List (List ℕ)
  pub each : AllZip stands pieces lists
  pub allowed : All (Contains given) before → All (Contains given) (concat lists)
  pub balanced : (h : Weight) → sum_by h waiting + sum_by h before + kids_weigh kids h (concat lists) ≡ sum_by h (concat lists) + kids_weigh kids h before

module _ {T : Type 0} where
  abbrev pub route_view : Route T → Account
  route_view r = view r.pass

  -- what no step of a worker changes: the deque, the share, and what was pushed
  abbrev pub route_frame : Route T → Deque × (ℕ × List ℕ)
  route_frame r = (stealer_deque r.thief, ((route_view r).share, (route_view r).pushed))

  abbrev pub routes_taken : Weight → List (Route T) → ℕ
  routes_taken h routes = sum_by (λ r. sum_by h (route_view r).taken) routes

  abbrev pub HasShare : Route T → Type 0
  HasShare r = 0 < (route_view r).share

  module _ {P : Type 0} where
    abbrev pub member_view : Member T P → Account
    member_view c = worker_view c.own

    abbrev pub member_pushed : Weight → Member T P → ℕ
    member_pushed h c = sum_by h (member_view c).pushed

    abbrev pub member_taken : Weight → Member T P → ℕ
    member_taken h c = sum_by h (member_view c).taken + routes_taken h c.routes.items

    abbrev pub member_deque : Member T P → Deque
    member_deque c = worker_deque c.own

    abbrev pub member_share : Member T P → ℕ
    member_share c = (member_view c).share

    -- a worker that has no routes yet, and nothing dealt
    pub record IsNew (c : Member T P) : Type 0 where
      pub view : member_view c ≡ account whole [] []
      pub routes : c.routes.items ≡ []

    -- the piece stands for some tasks
    pub record HasPiece (stands : P → List ℕ → Type 0) (c : Member T P) : Type 0 where
      pub ran : List ℕ
      pub has : stands c.piece ran

    abbrev pub member_piece : Member T P → P
    member_piece c = c.piece

    -- all of a worker but what was pushed
    abbrev pub but_pushed : Member T P → Deque × ((ℕ × List ℕ) × (List (Route T) × P))
    but_pushed c = (member_deque c, ((member_share c, (member_view c).taken), (c.routes.items, c.piece)))

    -- all of a worker but its share, and all but its routes
    abbrev pub but_share : Member T P → Deque × ((List ℕ × List ℕ) × (List (Route T) × P))
    but_share c = (member_deque c, (((member_view c).pushed, (member_view c).taken), (c.routes.items, c.piece)))

    abbrev pub but_routes : Member T P → Deque × (Account × P)
    but_routes c = (member_deque c, (member_view c, c.piece))

    -- what stays while routes are made
    abbrev pub but_share_and_routes : Member T P → Deque × ((List ℕ × List ℕ) × P)
    but_share_and_routes c = (member_deque c, (((member_view c).pushed, (member_view c).taken), c.piece))

    -- what stays while passes are joined
    abbrev pub but_share_and_taken : Member T P → Deque × (List ℕ × (List (Route T) × P))
    but_share_and_taken c = (member_deque c, ((member_view c).pushed, (c.routes.items, c.piece)))

    abbrev pub own_deque_and_piece : Member T P → Deque × (List ℕ × P)
    own_deque_and_piece c = (member_deque c, ((member_view c).pushed, c.piece))

    abbrev pub own_taken : Weight → Member T P → ℕ
    own_taken h c = sum_by h (member_view c).taken

    abbrev pub member_routes : Member T P → List (Route T)
    member_routes c = c.routes.items

    abbrev pub route_frames : Member T P → List (Deque × (ℕ × List ℕ))
    route_frames c = map route_frame c.routes.items

    abbrev pub member_stolen : Weight → Member T P → ℕ
    member_stolen h c = routes_taken h c.routes.items

    -- each pass has a share
    pub record IsReady (c : Member T P) : Type 0 where
      pub own : 0 < (member_view c).share
      pub routes : All HasShare c.routes.items

    -- where it has the whole share, all that was pushed to its deque was taken
    abbrev pub IsSettled : Member T P → Type 0
    IsSettled c = (member_view c).share ≡ whole → Settled (member_view c)

    -- no step of a worker changes this
    pub record SameFrame (old new : Member T P) : Type 0 where
      pub own : worker_deque new.own ≡ worker_deque old.own
      pub share : (member_view new).share ≡ (member_view old).share
      pub routes : map route_frame new.routes.items ≡ map route_frame old.routes.items

    -- these tasks were taken, from whatever deque
    pub record Took (old new : Member T P) (tasks : List ℕ) : Type 0 where
      pub frame : SameFrame old new
      pub piece : new.piece ≡ old.piece
      pub pushed : (h : Weight) → member_pushed h new ≡ member_pushed h old
      pub taken : (h : Weight) → member_taken h new ≡ member_taken h old + sum_by h tasks

    -- a task that was taken before was run: the piece has it, and its kids were pushed
    pub record Ran (kids : ℕ → List ℕ) (stands : P → List ℕ → Type 0) (old new : Member T P) (task : ℕ) : Type 0 where
      pub frame : SameFrame old new
      pub piece : (ran : List ℕ) → stands old.piece ran → stands new.piece (ran ++ task ∷ [])
      pub pushed : (h : Weight) → member_pushed h new ≡ member_pushed h old + sum_by h (kids task)
      pub taken : (h : Weight) → member_taken h new ≡ member_taken h old

    -- `more` was taken and run: the piece has these tasks too, and their kids were pushed
    pub record Worked (given : List ℕ) (kids : ℕ → List ℕ) (stands : P → List ℕ → Type 0) (old new : Member T P) : Type 0 where
      pub frame : SameFrame old new
      pub more : List ℕ
      pub allowed : All (Contains given) more
      pub piece : (ran : List ℕ) → stands old.piece ran → stands new.piece (ran ++ more)
      pub pushed : (h : Weight) → member_pushed h new ≡ member_pushed h old + kids_weigh kids h more
      pub taken : (h : Weight) → member_taken h new ≡ member_taken h old + sum_by h more

    -- all passes to its deque are joined into its own, and it has none to others
    pub record IsHome (c : Member T P) : Type 0 where
      pub share : member_share c ≡ whole
      pub routes : c.routes.items ≡ []

    -- a worker's piece after the last pops of its deque: what was pushed to its deque is what was taken from it
    pub record Finished (given : List ℕ) (kids : ℕ → List ℕ) (stands : P → List ℕ → Type 0) (c : Member T P) (piece : P) : Type 0 where
      pub more : List ℕ
      pub allowed : All (Contains given) more
      pub stands_for : (ran : List ℕ) → stands c.piece ran → stands piece (ran ++ more)
      pub balanced : (h : Weight) → member_pushed h c + kids_weigh kids h more ≡ member_taken h c + sum_by h more

    -- workers to which these tasks are dealt, each with a route to each deque
    pub record Started (dealt : List ℕ) (members : List (Member T P)) : Type 0 where
      pub pushed : (h : Weight) → sum_by (member_pushed h) members ≡ sum_by h dealt
      pub taken : (h : Weight) → sum_by (member_taken h) members ≡ 0
      pub shares : All (λ n. n + length members ≡ whole) (map member_share members)
      pub leads : All (λ l. l ≡ map new_route (map member_deque members)) (map route_frames members)
