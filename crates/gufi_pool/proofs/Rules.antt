-- Each step of a deque keeps its rule.
use Rattle.std.proofs.Common.{◌≡◌, ◌≢◌, ℕ, zero, suc, ◌+◌, ◌-◌, ◌<◌, List, [], ◌∷◌, ◌++◌, set, arith, sum_by, refl, sym, ap, ◌∙◌, length, subst, All, Contains, ⊎_elim}
use mathlib.Core.Option.{some, some-ne-none}
use lib.ListN.{get_elem?}
use Rattle.std.proofs.lemmas.List.Sums.{sum_by-append, sum_by_push}
use lib.Seq.{take-append_seam, drop-append_seam}
use Rattle.std.proofs.lemmas.List.Elements.{All-nil, All-push, All-take, All-drop}
use Rattle.crossbeam_deque.proofs.Lists.{at_set, at_snoc}
use Rattle.crossbeam_deque.specs.Tasks.{Pushes, Takes, Pops, Finds, Forks, Merges}
use Rattle.gufi_pool.specs.declared.rule.Account.{Account}
use Rattle.gufi_pool.specs.Accounts.{account, whole, Weight, IdleIsEmpty, Ruled, Settled}
use Rattle.gufi_pool.proofs.Sums.{sum_by_set, sum_by_only}

abbrev IsEmpty : Account → Type 0
IsEmpty v = (v.pushed ≡ []) × (v.taken ≡ [])

idle_set : (views : List Account) (port : ℕ) (w : Account) → (w.share ≡ 0 → IsEmpty w) → IdleIsEmpty views → IdleIsEmpty (set views port w)
idle_set views port w new idle j u at none =
    ⊎_elim (λ (x : (j ≡ port) × (w ≡ u)). let e = x.1 in let z : w.share ≡ 0 = cc in let r = new z in (ap (λ (y : Account). y.pushed) (sym e) ∙ r.0, ap (λ (y : Account). y.taken) (sym e) ∙ r.1))
    (λ (x : (j ≢ port) × (get_elem? views j ≡ some u)). idle j u x.1 none)
    (at_set views port j w u at)

pub All-append_left : {X : Type 0} (P : X → Type 0) (xs ys : List X) → All P (xs ++ ys) → All P xs
All-append_left P xs ys h = subst (All P) (take-append_seam xs ys) (All-take P (length xs) (xs ++ ys) h)

pub All-append_right : {X : Type 0} (P : X → Type 0) (xs ys : List X) → All P (xs ++ ys) → All P ys
All-append_right P xs ys h = subst (All P) (drop-append_seam xs ys) (All-drop P (length xs) (xs ++ ys) h)

only_whole : IdleIsEmpty (account whole [] [] ∷ [])
only_whole zero v at none = let same : account whole [] [] ≡ v = cc in let z : whole ≡ 0 = cc in absurd (omega arith)
only_whole (suc j) v at none = absurd (some-ne-none v (sym at))

pub begins : (given : List ℕ) → Ruled given [] (account whole [] [] ∷ [])
begins given = record {
  balanced = λ h. refl;
  allowed = All-nil _;
  shares = refl;
  idle = only_whole;
}

pub pushes : (given : List ℕ) (port : ℕ) (v : Account) (task : ℕ) → 0 < v.share → Contains given task → Pushes (Ruled given) port v (task ∷ []) (λ w. w ≡ account v.share (v.pushed ++ task ∷ []) v.taken)
pushes given port v task some_share may items views b at =
    let w : Account = account v.share (v.pushed ++ task ∷ []) v.taken in (
      w,
      record {
        balanced = λ h.
            let p = sum_by_set (λ (u : Account). sum_by h u.pushed) views port v w at in
            let t = sum_by_set (λ (u : Account). sum_by h u.taken) views port v w at in
            let old = b.balanced h in
            omega (arith, sum_by_push h v.pushed task, sum_by_push h items task);
        allowed = All-push (Contains given) items task b.allowed may;
        shares = let s = sum_by_set (λ (u : Account). u.share) views port v w at in let old = b.shares in omega arith;
        idle = idle_set views port w (λ none. absurd (omega arith)) b.idle;
      },
      refl,
    )

abbrev Takes_then : List ℕ → Account → List ℕ → Account → Type 0
Takes_then given v xs w = (w ≡ account v.share v.pushed (v.taken ++ xs)) × All (Contains given) xs

-- some tasks leave, at either end
leaves : (given : List ℕ) (port : ℕ) (v : Account) (xs all items : List ℕ) (views : List Account) → 0 < v.share → ((h : Weight) → sum_by h all ≡ sum_by h xs + sum_by h items) → All (Contains given) xs → All (Contains given) items
    → Ruled given all views → get_elem? views port ≡ some v → (w : Account) × Ruled given items (set views port w) × Takes_then given v xs w
leaves given port v xs all items views some_share parts some_allowed others_allowed b at =
    let w : Account = account v.share v.pushed (v.taken ++ xs) in (
      w,
      record {
        balanced = λ h.
            let p = sum_by_set (λ (u : Account). sum_by h u.pushed) views port v w at in
            let t = sum_by_set (λ (u : Account). sum_by h u.taken) views port v w at in
            let old = b.balanced h in
            let e = parts h in
            omega (arith, sum_by-append h v.taken xs);
        allowed = others_allowed;
        shares = let s = sum_by_set (λ (u : Account). u.share) views port v w at in let old = b.shares in omega arith;
        idle = idle_set views port w (λ none. absurd (omega arith)) b.idle;
      },
      (refl, some_allowed),
    )

pub takes : (given : List ℕ) (port : ℕ) (v : Account) (most : ℕ) → 0 < v.share → Takes (Ruled given) port v most (λ xs w. (w ≡ account v.share v.pushed (v.taken ++ xs)) × All (Contains given) xs)
takes given port v most some_share xs items views _ _ b at =
    leaves given port v xs (xs ++ items) items views some_share (λ h. sum_by-append h xs items) (All-append_left (Contains given) xs items b.allowed) (All-append_right (Contains given) xs items b.allowed) b at

pub pops : (given : List ℕ) (port : ℕ) (v : Account) → 0 < v.share → Pops (Ruled given) port v (λ xs w. (w ≡ account v.share v.pushed (v.taken ++ xs)) × All (Contains given) xs)
pops given port v some_share x items views b at =
    leaves given port v (x ∷ []) (items ++ x ∷ []) items views some_share (λ h. let a = sum_by-append h items (x ∷ []) in omega arith) (All-append_right (Contains given) items (x ∷ []) b.allowed) (All-append_left (Contains given) items (x ∷ []) b.allowed) b at

pub finds : (given : List ℕ) (port : ℕ) (v : Account) → Finds (Ruled given) port v (v.share ≡ whole → Settled v)
finds given port v views b at all h =
    let share : Account → ℕ = λ (u : Account). u.share in
    let e : sum_by share views ≡ share v = b.shares ∙ sym all in
    let p = sum_by_only share (λ (u : Account). sum_by h u.pushed) views port v at (λ j u has none. ap (sum_by h) (b.idle j u has none).0) e in
    let t = sum_by_only share (λ (u : Account). sum_by h u.taken) views port v at (λ j u has none. ap (sum_by h) (b.idle j u has none).1) e in
    let old = b.balanced h in
    omega arith

pub forks : (given : List ℕ) (port : ℕ) (v : Account) → 1 < v.share → Forks (Ruled given) port v (account (v.share - 1) v.pushed v.taken) (account 1 [] [])
forks given port v two items views b at =
    let left : Account = account (v.share - 1) v.pushed v.taken in
    let right : Account = account 1 [] [] in
    let vs = set views port left in
    record {
      balanced = λ h.
          let fp : Account → ℕ = λ (u : Account). sum_by h u.pushed in
          let ft : Account → ℕ = λ (u : Account). sum_by h u.taken in
          let p = sum_by_set fp views port v left at in
          let t = sum_by_set ft views port v left at in
          let p' = sum_by_push fp vs right in
          let t' = sum_by_push ft vs right in
          let old = b.balanced h in
          omega arith;
      allowed = b.allowed;
      shares =
          let share : Account → ℕ = λ (u : Account). u.share in
          let s = sum_by_set share views port v left at in
          let s' = sum_by_push share vs right in
          let old = b.shares in
          omega arith;
      idle = λ j u has none. ⊎_elim (λ (x : get_elem? vs j ≡ some u). idle_set views port left (λ none. absurd (omega arith)) b.idle j u x none)
          (λ (x : right ≡ u). let z : right.share ≡ 0 = cc in absurd (omega arith)) (at_snoc vs right u j has);
    }

pub merges : (given : List ℕ) (port : ℕ) (v : Account) (other : ℕ) (u : Account) → 0 < v.share → Merges (Ruled given) port v other u (account (v.share + u.share) (v.pushed ++ u.pushed) (v.taken ++ u.taken)) (account 0 [] [])
merges given port v other u some_share items views b at apart at' =
    let both : Account = account (v.share + u.share) (v.pushed ++ u.pushed) (v.taken ++ u.taken) in
    let spent : Account = account 0 [] [] in
    let vs = set views port both in
    record {
      balanced = λ h.
          let fp : Account → ℕ = λ (y : Account). sum_by h y.pushed in
          let ft : Account → ℕ = λ (y : Account). sum_by h y.taken in
          let p = sum_by_set fp views port v both at in
          let t = sum_by_set ft views port v both at in
          let p' = sum_by_set fp vs other u spent at' in
          let t' = sum_by_set ft vs other u spent at' in
          let old = b.balanced h in
          omega (arith, sum_by-append h v.pushed u.pushed, sum_by-append h v.taken u.taken);
      allowed = b.allowed;
      shares =
          let share : Account → ℕ = λ (y : Account). y.share in
          let s = sum_by_set share views port v both at in
          let s' = sum_by_set share vs other u spent at' in
          let old = b.shares in
          omega arith;
      idle = idle_set vs other spent (λ none. (refl, refl)) (idle_set views port both (λ none. absurd (omega arith)) b.idle);
    }
