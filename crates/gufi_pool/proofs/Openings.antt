-- What the beginning of a job comes to.
use Rattle.std.proofs.Common.{◌≡◌, ℕ, zero, suc, ◌+◌, ◌<◌, ◌≤◌, true, ◌==◌, List, [], ◌∷◌, ◌++◌, length, get_or, take, arith, sum_by, refl, sym, ap, ◌∙◌, subst, All, Contains, length-append}
use Rattle.std.specs.List.{concat}
use Rattle.std.proofs.lemmas.Bool.Decides.{nat_tests}
use Rattle.std.proofs.lemmas.List.{take_more, take-append-drop}
use Rattle.std.proofs.lemmas.List.Sums.{sum_by-append, sum_by_push}
use Rattle.std.proofs.lemmas.List.Elements.{All-append, All-take}
use Rattle.gufi_pool.specs.declared.opening.Opening.{Opening}
use Rattle.gufi_pool.specs.Accounts.{Weight}
use Rattle.gufi_pool.specs.Jobs.{IsClosed, kids_weigh}
use Rattle.gufi_pool.specs.Openings.{ran_of, waiting_of, IsOpening}
use Rattle.gufi_pool.specs.Members.{HaveRun, HaveRunOn}
use Rattle.gufi_pool.specs.Forest.{IsShape, IsBalanced, StandForAll}
use Rattle.gufi_pool.proofs.Forests.{balanced_once}

front_of : {X : Type 0} (n : ℕ) (xs ys : List X) → n ≤ length xs → take n (xs ++ ys) ≡ take n xs
front_of zero xs ys le = refl
front_of (suc n) [] ys le = absurd (omega arith)
front_of (suc n) (x ∷ xs) ys le = ap (λ l. x ∷ l) (front_of n xs ys (omega arith))

pub none_waits : (xs ys : List ℕ) (n : ℕ) → ys ≡ xs → true ≡ (n == 0) → length xs ≡ n → ys ≡ []
none_waits [] ys n e none len = e
none_waits (x ∷ xs) ys n e none len = absurd (let z : n ≡ 0 = grind (arith, nat_tests) in omega arith)

module _ {P : Type 0} (given first : List ℕ) (kids : ℕ → List ℕ) (stands : P → List ℕ → Type 0) where
  pub opening_none : (o : Opening P) → o.next ≡ 0 → o.tasks.items ≡ first → stands o.piece [] → All (Contains given) first → IsOpening given first kids stands o
  opening_none o none are has may =
      let nothing : ran_of o ≡ [] = ap (λ n. take n o.tasks.items) none in
      record {
        within = omega arith;
        allowed = subst (All (Contains given)) (sym are) may;
        piece = subst (stands o.piece) (sym nothing) has;
        balanced = λ h. let k = ap (kids_weigh kids h) nothing in let f = ap (sum_by h) are in omega arith;
      }

  pub opening_one : (old new : Opening P) (task d : ℕ) → IsClosed given kids → IsOpening given first kids stands old → old.next < length old.tasks.items → task ≡ get_or old.tasks.items old.next d → Contains given task
      → new.next ≡ old.next + 1 → new.tasks.items ≡ old.tasks.items ++ kids task → stands new.piece (ran_of old ++ task ∷ []) → IsOpening given first kids stands new
  opening_one old new task d closed o lt is may next tasks has =
      let ran : ran_of new ≡ ran_of old ++ task ∷ [] =
      ap (λ n. take n new.tasks.items) next ∙ ap (take (old.next + 1)) tasks ∙ front_of (old.next + 1) old.tasks.items (kids task) (omega arith) ∙ take_more old.tasks.items old.next d lt ∙ ap (λ t. ran_of old ++ t ∷ []) (sym is) in
      record {
        within = let n = ap length tasks in omega (arith, length-append old.tasks.items (kids task));
        allowed = subst (All (Contains given)) (sym tasks) (All-append (Contains given) old.tasks.items (kids task) o.allowed (closed task may));
        piece = subst (stands new.piece) (sym ran) has;
        balanced = λ h.
            let b = o.balanced h in
            let k = ap (kids_weigh kids h) ran in
            let t = ap (sum_by h) tasks in
            omega (arith, sum_by_push (λ t. sum_by h (kids t)) (ran_of old) task, sum_by-append h old.tasks.items (kids task));
      }

  module _ (shape : IsShape given first kids) (o : Opening P) (opening : IsOpening given first kids stands o) where
    both : (h : Weight) → sum_by h o.tasks.items ≡ sum_by h (ran_of o) + sum_by h (waiting_of o)
    both h = ap (sum_by h) (sym (take-append-drop o.next o.tasks.items)) ∙ sum_by-append h (ran_of o) (waiting_of o)

    -- all was run at once
    pub lone_once : (pieces : List P) → waiting_of o ≡ [] → HaveRun stands (ran_of o) pieces → StandForAll given stands first kids pieces
    lone_once pieces none have =
        let allowed : All (Contains given) (concat have.lists) = subst (All (Contains given)) (sym have.all) (All-take (Contains given) o.next o.tasks.items opening.allowed) in
        let balanced : IsBalanced first kids (concat have.lists) = λ h.
        let b = opening.balanced h in
        let a = ap (sum_by h) have.all in
        let k = ap (kids_weigh kids h) have.all in
        let n = ap (sum_by h) none in
        omega (arith, both h) in
        record {
          lists = have.lists;
          each = have.each;
          allowed = allowed;
          once = balanced_once given first kids shape (concat have.lists) allowed balanced;
          balanced = balanced;
        }

    -- what waited was run after
    pub rest_once : (pieces : List P) → HaveRunOn given kids stands (ran_of o) (waiting_of o) pieces → StandForAll given stands first kids pieces
    rest_once pieces have =
        let allowed : All (Contains given) (concat have.lists) = have.allowed (All-take (Contains given) o.next o.tasks.items opening.allowed) in
        let balanced : IsBalanced first kids (concat have.lists) = λ h.
        let b = opening.balanced h in
        let r = have.balanced h in
        omega (arith, both h) in
        record {
          lists = have.lists;
          each = have.each;
          allowed = allowed;
          once = balanced_once given first kids shape (concat have.lists) allowed balanced;
          balanced = balanced;
        }
