-- What a theft keeps of a job's workers.
use Rattle.std.proofs.Common.{◌≡◌, ℕ, ◌+◌, Bool, true, false, cond, List, [], ◌∷◌, set, drop, sum_by, refl, sym, ap, subst, arith}
use Rattle.std.specs.Prelude.{Option, Some, None, slice_get, ◌&&◌, ◌||◌, ◌==◌, not}
use Rattle.std.proofs.lemmas.List.Sums.{sum_by-cons}
use Rattle.gufi_base.specs.Basics.{is_empty}
use Rattle.gufi_core.specs.declared.state.Shape.{Shape}
use Rattle.gufi_core.specs.declared.state.WorkerState.{WorkerState}
use Rattle.gufi_core.specs.Steps.{guarded, is_free, with_taken, with_deque, give_to, steal, steal_from, has_ended_empty}
use Rattle.gufi_core.proofs.Shapes.{both}
use Rattle.gufi_core.proofs.Changed.{changed, allowed}
use Rattle.gufi_core.proofs.Evens.{owes, holds, parts, IsEven, sum_set, all_set, owes_more, holds_more, empty_is, runs_on, some_deque}

front_is : (deque : List ℕ) (task : ℕ) → slice_get deque 0 ≡ Some task → deque ≡ task ∷ drop 1 deque
front_is [] task e = absurd (let n : None ≡ Some task = e in cc)
front_is (t ∷ rest) task e = (let s : Some t ≡ Some task = e in cc)

loses : (w : WorkerState) (task : ℕ) (h : ℕ → ℕ) → w.deque ≡ task ∷ drop 1 w.deque → holds h w ≡ holds h (with_deque (drop 1 w.deque) w) + h task
loses w task h is =
    let e : sum_by h w.deque ≡ sum_by h (task ∷ drop 1 w.deque) = ap (sum_by h) is in
    omega (arith, parts h w.taken w.deque w.to_push, parts h w.taken (drop 1 w.deque) w.to_push, sum_by-cons h task (drop 1 w.deque))

still_running : (w : WorkerState) (task : ℕ) → w.deque ≡ task ∷ drop 1 w.deque → has_ended_empty w ≡ true → has_ended_empty (with_deque (drop 1 w.deque) w) ≡ true
still_running w task is old =
    ap (λ b. b || (is_empty (drop 1 w.deque) && is_empty w.to_push)) (runs_on w.ended (is_empty w.deque) (is_empty w.to_push) old (some_deque (is_empty w.deque) (is_empty w.to_push) (ap is_empty is)))

receives : (shape : Shape) (task : ℕ) (w new : WorkerState) → guarded (is_free w) (with_taken shape task w) ≡ Some new
    → ((h : ℕ → ℕ) → owes shape h new + holds h w + h task ≡ owes shape h w + holds h new) × (has_ended_empty new ≡ true)
receives shape task w new e =
    let g = allowed (is_free w) (with_taken shape task w) new e in
    let free = both (not w.ended) (is_empty w.to_push) g.holds in
    let kept : ((h : ℕ → ℕ) → owes shape h (with_taken shape task w) + holds h w + h task ≡ owes shape h w + holds h (with_taken shape task w)) × (has_ended_empty (with_taken shape task w) ≡ true) = (
      λ h. omega (arith, owes_more shape task w h, holds_more shape task w h (empty_is w.to_push free.1)),
      ap (λ b. b || (is_empty w.deque && is_empty (with_taken shape task w).to_push)) free.0,
    ) in
    subst (λ (v : WorkerState). ((h : ℕ → ℕ) → owes shape h v + holds h w + h task ≡ owes shape h w + holds h v) × (has_ended_empty v ≡ true)) (sym g.is) kept

given : (shape : Shape) (ws : List WorkerState) (thief victim : ℕ) (from : WorkerState) (new : List WorkerState) (task : Option ℕ) → slice_get ws victim ≡ Some from → slice_get from.deque 0 ≡ task
    → give_to shape (set ws victim (with_deque (drop 1 from.deque) from)) thief task ≡ Some new → IsEven shape ws new
given shape ws thief victim from new None at first e = absurd (let n : None ≡ Some new = e in cc)
given shape ws thief victim from new (Some task) at first e =
    let less = with_deque (drop 1 from.deque) from in
    let mid = set ws victim less in
    let is = front_is from.deque task first in
    let c = changed mid thief (λ w. guarded (is_free w) (with_taken shape task w)) new e in
    let r = receives shape task c.old c.new c.changes in
    let even : IsEven shape ws (set mid thief c.new) = record {
      even = λ h. omega (arith, r.0 h, loses from task h is, sum_set (owes shape h) ws victim from less at, sum_set (holds h) ws victim from less at, sum_set (owes shape h) mid thief c.old c.new c.is, sum_set (holds h) mid thief c.old c.new c.is);
      ended = λ all. all_set has_ended_empty mid thief c.old c.new c.is (λ _. r.1) (all_set has_ended_empty ws victim from less at (still_running from task is) all);
    } in
    subst (IsEven shape ws) (sym c.all) even

stolen : (shape : Shape) (ws : List WorkerState) (thief victim : ℕ) (new : List WorkerState) (from : Option WorkerState) → slice_get ws victim ≡ from → steal_from shape ws thief victim from ≡ Some new → IsEven shape ws new
stolen shape ws thief victim new None at e = absurd (let n : None ≡ Some new = e in cc)
stolen shape ws thief victim new (Some from) at e = given shape ws thief victim from new (slice_get from.deque 0) at refl e

another : {A : Type 0} (same : Bool) (o : Option A) (y : A) → cond same None o ≡ Some y → o ≡ Some y
another true o y e = absurd (let n : None ≡ Some y = e in cc)
another false o y e = e

pub steal_even : (shape : Shape) (ws new : List WorkerState) (thief victim : ℕ) → steal shape ws thief victim ≡ Some new → IsEven shape ws new
steal_even shape ws new thief victim e = stolen shape ws thief victim new (slice_get ws victim) refl (another (thief == victim) (steal_from shape ws thief victim (slice_get ws victim)) new e)
