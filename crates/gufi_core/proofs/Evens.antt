-- What each legal action keeps of a job's workers: what they owe and what they hold, by every weight.
use Rattle.std.proofs.Common.{◌≡◌, ℕ, zero, suc, ◌+◌, Bool, true, false, List, [], ◌∷◌, ◌++◌, set, sum_by, refl, sym, ap, ◌∙◌, subst, arith}
use Rattle.std.specs.Prelude.{Option, Some, None, slice_get, ◌&&◌, ◌||◌, not}
use Rattle.std.specs.List.{list_all, flat_map}
use Rattle.std.proofs.lemmas.List.Sums.{sum_by-cons, sum_by-append}
use Rattle.std.proofs.lemmas.List.Concat.{flat_map-append}
use Rattle.gufi_base.specs.Basics.{is_empty}
use Rattle.gufi_core.specs.declared.state.Shape.{Shape}
use Rattle.gufi_core.specs.declared.state.WorkerState.{WorkerState}
use Rattle.gufi_core.specs.Steps.{kids_of, change_at, is_free, with_taken, with_deque, take_own, take_from, push_own, push_from, end_own, has_ended_empty}
use Rattle.gufi_core.proofs.Shapes.{both}
use Rattle.gufi_core.proofs.Changed.{changed, allowed}

-- the kids of what a worker took, and what it took and still has, by weight
abbrev pub owes : Shape → (ℕ → ℕ) → WorkerState → ℕ
owes shape h w = sum_by h (flat_map (kids_of shape) w.taken)

abbrev pub holds : (ℕ → ℕ) → WorkerState → ℕ
holds h w = sum_by h (w.taken ++ w.deque ++ w.to_push)

pub parts : (h : ℕ → ℕ) (taken deque to_push : List ℕ) → sum_by h (taken ++ deque ++ to_push) ≡ sum_by h taken + sum_by h deque + sum_by h to_push
parts h taken deque to_push = omega (arith, sum_by-append h (taken ++ deque) to_push, sum_by-append h taken deque)

-- ---- one worker

pub record IsKept (shape : Shape) (old new : WorkerState) : Type 0 where
  pub even : (h : ℕ → ℕ) → owes shape h new + holds h old ≡ owes shape h old + holds h new
  pub ended : has_ended_empty old ≡ true → has_ended_empty new ≡ true

pub empty_is : (xs : List ℕ) → is_empty xs ≡ true → xs ≡ []
empty_is [] e = refl
empty_is (x ∷ xs) e = absurd (let e' : false ≡ true = e in cc)

pub runs_on : (ended deque to_push : Bool) → (not ended || (deque && to_push)) ≡ true → (deque && to_push) ≡ false → not ended ≡ true
runs_on false deque to_push e some = refl
runs_on true deque to_push e some = absurd (let e' : (deque && to_push) ≡ true = e in cc)

pub some_deque : (deque to_push : Bool) → deque ≡ false → (deque && to_push) ≡ false
some_deque deque to_push e = ap (λ b. b && to_push) e

some_to_push : (deque to_push : Bool) → to_push ≡ false → (deque && to_push) ≡ false
some_to_push true to_push e = e
some_to_push false to_push e = refl

pub owes_more : (shape : Shape) (task : ℕ) (w : WorkerState) (h : ℕ → ℕ) → owes shape h (with_taken shape task w) ≡ owes shape h w + sum_by h (kids_of shape task)
owes_more shape task w h =
    let e = ap (sum_by h) (flat_map-append (kids_of shape) w.taken (task ∷ [])) in
    omega (arith, e, sum_by-append h (flat_map (kids_of shape) w.taken) (kids_of shape task ++ []), sum_by-append h (kids_of shape task) [])

pub holds_more : (shape : Shape) (task : ℕ) (w : WorkerState) (h : ℕ → ℕ) → w.to_push ≡ [] → holds h (with_taken shape task w) ≡ holds h w + h task + sum_by h (kids_of shape task)
holds_more shape task w h none =
    let e : sum_by h w.to_push ≡ 0 = ap (sum_by h) none in
    omega (arith, parts h (w.taken ++ task ∷ []) w.deque (kids_of shape task), parts h w.taken w.deque w.to_push, sum_by-append h w.taken (task ∷ []), sum_by-cons h task [])

take_kept : (shape : Shape) (w new : WorkerState) (deque : List ℕ) → w.deque ≡ deque → take_from shape w deque ≡ Some new → IsKept shape w new
take_kept shape w new [] is e = absurd (let n : None ≡ Some new = e in cc)
take_kept shape w new (task ∷ rest) is e =
    let g = allowed (is_free w) (with_taken shape task (with_deque rest w)) new e in
    let free = both (not w.ended) (is_empty w.to_push) g.holds in
    let kept : IsKept shape w (with_taken shape task (with_deque rest w)) = record {
      even = λ h.
          let deque : sum_by h w.deque ≡ sum_by h (task ∷ rest) = ap (sum_by h) is in
          omega (arith, owes_more shape task (with_deque rest w) h, holds_more shape task (with_deque rest w) h (empty_is w.to_push free.1), parts h w.taken w.deque w.to_push, parts h w.taken rest w.to_push, sum_by-cons h task rest);
      ended = λ _. ap (λ b. b || (is_empty rest && is_empty (kids_of shape task))) free.0;
    } in
    subst (IsKept shape w) (sym g.is) kept

push_kept : (shape : Shape) (w new : WorkerState) (to_push : List ℕ) → w.to_push ≡ to_push → push_from w to_push ≡ Some new → IsKept shape w new
push_kept shape w new [] is e = absurd (let n : None ≡ Some new = e in cc)
push_kept shape w new (task ∷ rest) is e =
    let after : WorkerState = record { deque = w.deque ++ task ∷ []; taken = w.taken; to_push = rest; ended = w.ended } in
    let same : after ≡ new = (let s : Some after ≡ Some new = e in cc) in
    let kept : IsKept shape w after = record {
      even = λ h.
          let list : sum_by h w.to_push ≡ sum_by h (task ∷ rest) = ap (sum_by h) is in
          omega (arith, parts h w.taken w.deque w.to_push, parts h w.taken (w.deque ++ task ∷ []) rest, sum_by-cons h task rest, sum_by-append h w.deque (task ∷ []), sum_by-cons h task []);
      ended = λ old. ap (λ b. b || (is_empty (w.deque ++ task ∷ []) && is_empty rest)) (runs_on w.ended (is_empty w.deque) (is_empty w.to_push) old (some_to_push (is_empty w.deque) (is_empty w.to_push) (ap is_empty is)));
    } in
    subst (IsKept shape w) same kept

end_kept : (shape : Shape) (w new : WorkerState) → end_own w ≡ Some new → IsKept shape w new
end_kept shape w new e =
    let after : WorkerState = record { deque = w.deque; taken = w.taken; to_push = w.to_push; ended = true } in
    let g = allowed (is_free w && is_empty w.deque) after new e in
    let tests = both (is_free w) (is_empty w.deque) g.holds in
    let free = both (not w.ended) (is_empty w.to_push) tests.0 in
    let kept : IsKept shape w after = record {
      even = λ h. refl;
      ended = λ _. ap (λ b. b && is_empty w.to_push) tests.1 ∙ free.1;
    } in
    subst (IsKept shape w) (sym g.is) kept

-- ---- all workers of a job

pub record IsEven (shape : Shape) (old new : List WorkerState) : Type 0 where
  pub even : (h : ℕ → ℕ) → sum_by (owes shape h) new + sum_by (holds h) old ≡ sum_by (owes shape h) old + sum_by (holds h) new
  pub ended : list_all has_ended_empty old ≡ true → list_all has_ended_empty new ≡ true

module _ {X : Type 0} where
  pub sum_set : (f : X → ℕ) (xs : List X) (i : ℕ) (x y : X) → slice_get xs i ≡ Some x → sum_by f (set xs i y) + f x ≡ sum_by f xs + f y
  sum_set f [] i x y at = absurd (let n : None ≡ Some x = at in cc)
  sum_set f (z ∷ zs) zero x y at = let same : z ≡ x = (let s : Some z ≡ Some x = at in cc) in let e = ap f same in omega (arith, sum_by-cons f z zs, sum_by-cons f y zs)
  sum_set f (z ∷ zs) (suc i) x y at = omega (arith, sum_by-cons f z zs, sum_by-cons f z (set zs i y), sum_set f zs i x y at)

  pub all_set : (p : X → Bool) (xs : List X) (i : ℕ) (x y : X) → slice_get xs i ≡ Some x → (p x ≡ true → p y ≡ true) → list_all p xs ≡ true → list_all p (set xs i y) ≡ true
  all_set p [] i x y at keeps all = absurd (let n : None ≡ Some x = at in cc)
  all_set p (z ∷ zs) zero x y at keeps all =
      let same : z ≡ x = (let s : Some z ≡ Some x = at in cc) in
      let t = both (p z) (list_all p zs) all in
      ap (λ b. b && list_all p zs) (keeps (ap p (sym same) ∙ t.0)) ∙ t.1
  all_set p (z ∷ zs) (suc i) x y at keeps all =
      let t = both (p z) (list_all p zs) all in
      ap (λ b. b && list_all p (set zs i y)) t.0 ∙ all_set p zs i x y at keeps t.1

pub one_even : (shape : Shape) (ws : List WorkerState) (i : ℕ) (change : WorkerState → Option WorkerState) (new : List WorkerState) → ((w w' : WorkerState) → change w ≡ Some w' → IsKept shape w w') → change_at ws i change ≡ Some new → IsEven shape ws new
one_even shape ws i change new keeps e =
    let c = changed ws i change new e in
    let k = keeps c.old c.new c.changes in
    let even : IsEven shape ws (set ws i c.new) = record {
      even = λ h. omega (arith, k.even h, sum_set (owes shape h) ws i c.old c.new c.is, sum_set (holds h) ws i c.old c.new c.is);
      ended = all_set has_ended_empty ws i c.old c.new c.is k.ended;
    } in
    subst (IsEven shape ws) (sym c.all) even

pub take_even : (shape : Shape) (ws new : List WorkerState) (worker : ℕ) → change_at ws worker (take_own shape) ≡ Some new → IsEven shape ws new
take_even shape ws new worker e = one_even shape ws worker (take_own shape) new (λ w w' t. take_kept shape w w' w.deque refl t) e

pub push_even : (shape : Shape) (ws new : List WorkerState) (worker : ℕ) → change_at ws worker push_own ≡ Some new → IsEven shape ws new
push_even shape ws new worker e = one_even shape ws worker push_own new (λ w w' t. push_kept shape w w' w.to_push refl t) e

pub end_even : (shape : Shape) (ws new : List WorkerState) (worker : ℕ) → change_at ws worker end_own ≡ Some new → IsEven shape ws new
end_even shape ws new worker e = one_even shape ws worker end_own new (λ w w' t. end_kept shape w w' t) e
