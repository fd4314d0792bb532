-- First tasks, dealt to the workers in turn.
use Rattle.std.proofs.Common.{take, ◌≡◌, ◌≢◌, ℕ, zero, suc, ◌+◌, ◌%◌, ◌<◌, ◌≤◌, ⊎_elim, Bool, true, false, cond, eqb, List, [], ◌∷◌, ◌++◌, length, get_or, set, map, refl, sym, ap, ◌∙◌, arith, add-zero}
use Rattle.std.specs.Prelude.{replicate}
use Rattle.std.proofs.lemmas.List.{take_more, length-take-le}
use Rattle.std.specs.List.{range_with_len}
use Rattle.std.proofs.lemmas.Bool.Decides.{eqb_tells}
use Rattle.gufi_core.specs.declared.state.WorkerState.{WorkerState}
use Rattle.gufi_core.specs.Steps.{dealt_to, fresh_worker, fresh_workers, with_deque}
use Rattle.gufi_core.specs.Running.{idle_worker}

module _ {X : Type 0} where
  map_same : (f g : ℕ → X) (a n : ℕ) → ((j : ℕ) → a ≤ j → g j ≡ f j) → map g (range_with_len a n) ≡ map f (range_with_len a n)
  map_same f g a zero same = refl
  map_same f g a (suc n) same =
      let here : g a ≡ f a = same a (omega arith) in
      let rest = map_same f g (a + 1) n (λ j le. same j (omega arith)) in
      cc

  map_set : (f g : ℕ → X) (y : X) (a n k : ℕ) → k < n → ((j : ℕ) → j ≢ a + k → g j ≡ f j) → g (a + k) ≡ y → map g (range_with_len a n) ≡ set (map f (range_with_len a n)) k y
  map_set f g y a zero k lt others here = absurd (omega arith)
  map_set f g y a (suc n) zero lt others here =
      let head : g a ≡ y = ap g (sym (add-zero a)) ∙ here in
      let rest = map_same f g (a + 1) n (λ j le. others j (λ e. absurd (omega arith))) in
      cc
  map_set f g y a (suc n) (suc k) lt others here =
      let head : g a ≡ f a = others a (λ e. absurd (omega arith)) in
      let place : (a + 1) + k ≡ a + suc k = omega arith in
      let rest = map_set f g y (a + 1) n k (omega arith) (λ j no. others j (λ e. no (omega arith))) (ap g place ∙ here) in
      cc

  get_range : (f : ℕ → X) (d : X) (a n k : ℕ) → k < n → get_or (map f (range_with_len a n)) k d ≡ f (a + k)
  get_range f d a zero k lt = absurd (omega arith)
  get_range f d a (suc n) zero lt = ap f (sym (add-zero a))
  get_range f d a (suc n) (suc k) lt = let place : (a + 1) + k ≡ a + suc k = omega arith in get_range f d (a + 1) n k (omega arith) ∙ ap f place

  length_range : (f : ℕ → X) (a n : ℕ) → length (map f (range_with_len a n)) ≡ n
  length_range f a zero = refl
  length_range f a (suc n) = ap suc (length_range f (a + 1) n)

  map_constant : (x : X) (a n : ℕ) → map (λ _. x) (range_with_len a n) ≡ replicate n x
  map_constant x a zero = refl
  map_constant x a (suc n) = ap (λ xs. x ∷ xs) (map_constant x (a + 1) n)

-- one more task
more_dealt : (n w i : ℕ) (first : List ℕ) (task : ℕ) → dealt_to n w i (first ++ task ∷ []) ≡ (let dealt = dealt_to n w i first in cond (eqb ((i + length first) % n) w) (dealt ++ task ∷ []) dealt)
more_dealt n w i [] task = ap (λ k. cond (eqb (k % n) w) (task ∷ []) []) (sym (add-zero i))
more_dealt n w i (x ∷ rest) task =
    let place : (i + 1) + length rest ≡ i + suc (length rest) = omega arith in
    let tail = more_dealt n w (i + 1) rest task ∙ ap (λ k. cond (eqb (k % n) w) (dealt_to n w (i + 1) rest ++ task ∷ []) (dealt_to n w (i + 1) rest)) place in
    ap (λ (ts : List ℕ). cond (eqb (i % n) w) (x ∷ ts) ts) tail ∙ swapped (eqb (i % n) w) (eqb ((i + suc (length rest)) % n) w) x (dealt_to n w (i + 1) rest) task
  where
    swapped : (mine there : Bool) (x : ℕ) (dealt : List ℕ) (task : ℕ) → cond mine (x ∷ cond there (dealt ++ task ∷ []) dealt) (cond there (dealt ++ task ∷ []) dealt)
        ≡ cond there (cond mine (x ∷ dealt) dealt ++ task ∷ []) (cond mine (x ∷ dealt) dealt)
    swapped true true x dealt task = refl
    swapped true false x dealt task = refl
    swapped false true x dealt task = refl
    swapped false false x dealt task = refl

abbrev with_tasks : List ℕ → WorkerState
with_tasks tasks = record { deque = tasks; taken = []; to_push = []; ended = false }

dealt_here : (n j : ℕ) (first : List ℕ) (task : ℕ) → length first % n ≡ j → fresh_worker n (first ++ task ∷ []) j ≡ with_tasks (dealt_to n j 0 first ++ task ∷ [])
dealt_here n j first task here =
    let place : 0 + length first ≡ length first = omega arith in
    let is : (0 + length first) % n ≡ j = ap (λ k. k % n) place ∙ here in
    ⊎_elim (λ (yes : (eqb ((0 + length first) % n) j ≡ true) × ((0 + length first) % n ≡ j)).
    ap with_tasks (more_dealt n j 0 first task ∙ ap (λ (b : Bool). cond b (dealt_to n j 0 first ++ task ∷ []) (dealt_to n j 0 first)) yes.0))
    (λ (no : (eqb ((0 + length first) % n) j ≡ false) × ((0 + length first) % n ≢ j)). absurd (no.1 is)) (eqb_tells ((0 + length first) % n) j)

dealt_elsewhere : (n j : ℕ) (first : List ℕ) (task : ℕ) → j ≢ 0 + length first % n → fresh_worker n (first ++ task ∷ []) j ≡ fresh_worker n first j
dealt_elsewhere n j first task away =
    let place : 0 + length first ≡ length first = omega arith in
    let same : (0 + length first) % n ≡ length first % n = ap (λ k. k % n) place in
    ⊎_elim (λ (yes : (eqb ((0 + length first) % n) j ≡ true) × ((0 + length first) % n ≡ j)). absurd (away (omega arith)))
    (λ (no : (eqb ((0 + length first) % n) j ≡ false) × ((0 + length first) % n ≢ j)).
    ap with_tasks (more_dealt n j 0 first task ∙ ap (λ (b : Bool). cond b (dealt_to n j 0 first ++ task ∷ []) (dealt_to n j 0 first)) no.0)) (eqb_tells ((0 + length first) % n) j)

-- workers without first tasks are idle
pub fresh_idle : (n : ℕ) → replicate n idle_worker ≡ fresh_workers n []
fresh_idle n = sym (map_constant idle_worker 0 n)

pub length_fresh : (n : ℕ) (first : List ℕ) → length (fresh_workers n first) ≡ n
length_fresh n first = length_range (fresh_worker n first) 0 n

-- the next task goes to the next worker in turn
pub deals : (n : ℕ) (first : List ℕ) (task : ℕ) (w : WorkerState) → 0 < n → w ≡ get_or (fresh_workers n first) (length first % n) w
    → set (fresh_workers n first) (length first % n) (with_deque (w.deque ++ task ∷ []) w) ≡ fresh_workers n (first ++ task ∷ [])
deals n first task w some is =
    let k = length first % n in
    let lt : k < n = omega arith in
    let here : 0 + k ≡ k = omega arith in
    let old : w ≡ fresh_worker n first k = is ∙ get_range (fresh_worker n first) w 0 n k lt ∙ ap (fresh_worker n first) here in
    let new : fresh_worker n (first ++ task ∷ []) (0 + k) ≡ with_deque (w.deque ++ task ∷ []) w =
    dealt_here n (0 + k) first task (sym here) ∙ ap (λ j. with_tasks (dealt_to n j 0 first ++ task ∷ [])) here ∙ ap (λ (v : WorkerState). with_deque (v.deque ++ task ∷ []) v) (sym old) in
    sym (map_set (fresh_worker n first) (fresh_worker n (first ++ task ∷ [])) (with_deque (w.deque ++ task ∷ []) w) 0 n k lt (λ j away. dealt_elsewhere n j first task away) new)

-- after the task at a place, where the ones before it are dealt
pub dealt_more : (n place : ℕ) (first : List ℕ) (workers : List WorkerState) (w new : WorkerState) → 0 < n → place < length first → workers ≡ fresh_workers n (take place first) → w ≡ get_or workers (place % n) w
    → new ≡ with_deque (w.deque ++ get_or first place 0 ∷ []) w → set workers (place % n) new ≡ fresh_workers n (take (place + 1) first)
dealt_more n place first workers w new some lt dealt is done =
    let front = take place first in
    let len : length front ≡ place = length-take-le place first (omega arith) in
    let here : w ≡ get_or (fresh_workers n front) (length front % n) w = is ∙ ap (λ (ws : List WorkerState). get_or ws (place % n) w) dealt ∙ ap (λ k. get_or (fresh_workers n front) (k % n) w) (sym len) in
    ap (λ (v : WorkerState). set workers (place % n) v) done
    ∙ ap (λ (ws : List WorkerState). set ws (place % n) (with_deque (w.deque ++ get_or first place 0 ∷ []) w)) dealt
    ∙ ap (λ k. set (fresh_workers n front) (k % n) (with_deque (w.deque ++ get_or first place 0 ∷ []) w)) (sym len)
    ∙ deals n front (get_or first place 0) w some here
    ∙ ap (fresh_workers n) (sym (take_more first place 0 lt))
