-- A balanced job whose workers have all ended took each owed task once, and nothing else.
use Rattle.std.proofs.Common.{◌≡◌, ℕ, ◌+◌, ◌⊎◌, inl, inr, ⊎_elim, Bool, true, false, cond, eqb, List, [], ◌∷◌, ◌++◌, sum_by, refl, sym, ap, ◌∙◌, arith, Contains, append-nil, ◌≢◌}
use Rattle.std.specs.Prelude.{◌&&◌, ◌||◌, ◌==◌, not}
use Rattle.std.specs.List.{list_all, list_any, flat_map}
use Rattle.std.proofs.lemmas.Bool.Decides.{eqb_tells}
use Rattle.std.proofs.lemmas.List.Sums.{sum_by-cons, sum_by-append}
use Rattle.gufi_base.specs.Basics.{is_empty}
use Rattle.gufi_core.specs.declared.state.WorkerState.{WorkerState}
use Rattle.gufi_core.specs.Steps.{kids_of, count_of, owed, all_taken, all_held, has_ended_empty}
use Rattle.gufi_core.specs.Interleavings.{EndedJobsTookOwed}
use Rattle.gufi_core.proofs.Counts.{one, one_no, later, counted_contains, sum_flat}
use Rattle.gufi_core.proofs.Forests.{owed_once, others_absent}
use Rattle.gufi_core.proofs.Shapes.{shape_is_forest, both}
use Rattle.gufi_core.proofs.Reached.{owed_is_owed, is_owed_owed}

nothing : (xs : List ℕ) → is_empty xs ≡ true → xs ≡ []
nothing [] e = refl
nothing (x ∷ xs) e = absurd (let e' : false ≡ true = e in cc)

-- a worker that has ended, with nothing left, holds what it took
holds_taken : (w : WorkerState) → w.ended ≡ true → has_ended_empty w ≡ true → w.taken ++ w.deque ++ w.to_push ≡ w.taken
holds_taken w ended empty =
    let parts = both (is_empty w.deque) (is_empty w.to_push) (ap (λ b. not b || (is_empty w.deque && is_empty w.to_push)) (sym ended) ∙ empty) in
    ap (λ (d : List ℕ). w.taken ++ d ++ w.to_push) (nothing w.deque parts.0) ∙ ap (λ (p : List ℕ). w.taken ++ [] ++ p) (nothing w.to_push parts.1) ∙ simp append-nil

all_held_taken : (ws : List WorkerState) → list_all (λ (w : WorkerState). w.ended) ws ≡ true → list_all has_ended_empty ws ≡ true → flat_map (λ (w : WorkerState). w.taken ++ w.deque ++ w.to_push) ws ≡ flat_map (λ (w : WorkerState). w.taken) ws
all_held_taken [] ended empty = refl
all_held_taken (w ∷ ws) ended empty =
    let e = both w.ended (list_all (λ (v : WorkerState). v.ended) ws) ended in
    let n = both (has_ended_empty w) (list_all has_ended_empty ws) empty in
    let here = holds_taken w e.0 n.0 in
    let rest = all_held_taken ws e.1 n.1 in
    cc

-- the test by which a definition looks for a task
abbrev pub Looked : List ℕ → ℕ → Type 0
Looked xs x = ((list_any (λ t. t == x) xs ≡ true) × Contains xs x) ⊎ ((list_any (λ t. t == x) xs ≡ false) × (count_of xs x ≡ 0))

pub looked : (xs : List ℕ) (x : ℕ) → Looked xs x
looked [] x = inr (refl, refl)
looked (y ∷ ys) x =
    ⊎_elim (λ (yes : (eqb y x ≡ true) × (y ≡ x)). inl (ap (λ b. b || list_any (λ t. t == x) ys) yes.0, (0, omega arith, yes.1)))
    (λ (no : (eqb y x ≡ false) × (y ≢ x)).
    let here : (list_any (λ t. t == x) (y ∷ ys)) ≡ list_any (λ t. t == x) ys = ap (λ b. b || list_any (λ t. t == x) ys) no.0 in
    let none = one_no x y no.0 in
    ⊎_elim (λ (l : (list_any (λ t. t == x) ys ≡ true) × Contains ys x). inl (here ∙ l.0, later y x ys l.1))
    (λ (r : (list_any (λ t. t == x) ys ≡ false) × (count_of ys x ≡ 0)). inr (here ∙ r.0, omega (arith, sum_by-cons (one x) y ys, r.1)))
    (looked ys x))
    (eqb_tells y x)

pub took_owed : EndedJobsTookOwed
took_owed shape job sound balanced ended task =
    let same = all_held_taken job.workers ended balanced.ended in
    let even : (x : ℕ) → count_of shape.first x + sum_by (λ t. count_of (kids_of shape t) x) (all_taken job) ≡ count_of (all_taken job) x = λ x.
    let counts = balanced.counts x in
    let held : count_of (all_held job) x ≡ count_of (all_taken job) x = ap (λ (xs : List ℕ). count_of xs x) same in
    omega (arith, sum_by-append (one x) shape.first (flat_map (kids_of shape) (all_taken job)), sum_flat (one x) (kids_of shape) (all_taken job)) in
    let forest = shape_is_forest shape sound in
    ⊎_elim (λ (yes : (list_any (λ t. t == task) (owed shape) ≡ true) × Contains (owed shape) task).
    owed_once shape.first (kids_of shape) (all_taken job) forest even task (owed_is_owed shape task yes.1) ∙ ap (λ (b : Bool). cond b 1 0) (sym yes.0))
    (λ (no : (list_any (λ t. t == task) (owed shape) ≡ false) × (count_of (owed shape) task ≡ 0)).
    others_absent shape.first (kids_of shape) (all_taken job) forest even task (λ is. absurd (let has = counted_contains task (owed shape) (is_owed_owed shape sound task is) in let none = no.1 in omega arith)) ∙ ap (λ (b : Bool). cond b 1 0) (sym no.0))
    (looked (owed shape) task)
