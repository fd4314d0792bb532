-- What all workers have run, and what their deques were given.
use Rattle.std.proofs.Common.{◌≡◌, ℕ, ◌+◌, List, [], ◌∷◌, ◌++◌, map, arith, sum_by, refl, sym, ap, subst, All, Contains}
use Rattle.std.specs.List.{AllZip, concat}
use Rattle.std.proofs.lemmas.List.Sums.{sum_by-cons, sum_by-append}
use Rattle.std.proofs.lemmas.List.Elements.{All-append, All-nil, All-cons}
use Rattle.gufi_pool.specs.declared.member.Member.{Member}
use Rattle.gufi_pool.specs.Accounts.{Weight}
use Rattle.gufi_pool.specs.Jobs.{kids_weigh}
use Rattle.gufi_pool.specs.Members.{member_piece, member_pushed, member_taken, own_deque_and_piece, HasPiece, HaveRun, HaveRunOn, Worked, Finished, Started}
use Rattle.gufi_pool.proofs.Rules.{All-append_left, All-append_right}
use Rattle.gufi_pool.proofs.Zips.{sum_through}

kids_append : (kids : ℕ → List ℕ) (h : Weight) (xs ys : List ℕ) → kids_weigh kids h (xs ++ ys) ≡ kids_weigh kids h xs + kids_weigh kids h ys
kids_append kids h xs ys = sum_by-append (λ task. sum_by h (kids task)) xs ys

module _ {T P : Type 0} (given : List ℕ) (kids : ℕ → List ℕ) (stands : P → List ℕ → Type 0) where
  abbrev Has : Member T P → List ℕ → Type 0
  Has c ran = stands c.piece ran

  -- these lists were run in all after a part of the work
  record Later (xs ys : List (Member T P)) (rans : List (List ℕ)) : Type 0 where
    next : List (List ℕ)
    each : AllZip Has ys next
    pushed : (h : Weight) → sum_by (member_pushed h) ys + kids_weigh kids h (concat rans) ≡ sum_by (member_pushed h) xs + kids_weigh kids h (concat next)
    taken : (h : Weight) → sum_by (member_taken h) ys + sum_by h (concat rans) ≡ sum_by (member_taken h) xs + sum_by h (concat next)
    allowed : All (Contains given) (concat rans) → All (Contains given) (concat next)

  later : (xs ys : List (Member T P)) (rans : List (List ℕ)) → AllZip Has xs rans → AllZip (Worked given kids stands) xs ys → Later xs ys rans
  later [] [] [] has work = record { next = []; each = tt; pushed = λ h. refl; taken = λ h. refl; allowed = λ a. a }
  later [] [] (r ∷ rs) has work = absurd has
  later [] (y ∷ ys) rans has work = absurd work
  later (x ∷ xs) [] rans has work = absurd work
  later (x ∷ xs) (y ∷ ys) [] has work = absurd has
  later (x ∷ xs) (y ∷ ys) (r ∷ rs) has work =
      let w = work.0 in
      let rest = later xs ys rs has.1 work.1 in
      record {
        next = (r ++ w.more) ∷ rest.next;
        each = (w.piece r has.0, rest.each);
        pushed = λ h.
            let a = w.pushed h in
            let b = rest.pushed h in
            omega (arith, sum_by-cons (member_pushed h) x xs, sum_by-cons (member_pushed h) y ys, kids_append kids h r (concat rs), kids_append kids h (r ++ w.more) (concat rest.next), kids_append kids h r w.more);
        taken = λ h.
            let a = w.taken h in
            let b = rest.taken h in
            omega (arith, sum_by-cons (member_taken h) x xs, sum_by-cons (member_taken h) y ys, sum_by-append h r (concat rs), sum_by-append h (r ++ w.more) (concat rest.next), sum_by-append h r w.more);
        allowed = λ a.
            All-append (Contains given) (r ++ w.more) (concat rest.next) (All-append (Contains given) r w.more (All-append_left (Contains given) r (concat rs) a) w.allowed)
            (rest.allowed (All-append_right (Contains given) r (concat rs) a));
      }

  record Ended (xs : List (Member T P)) (pieces : List P) (rans : List (List ℕ)) : Type 0 where
    lists : List (List ℕ)
    each : AllZip stands pieces lists
    balanced : (h : Weight) → sum_by (member_pushed h) xs + kids_weigh kids h (concat lists) + sum_by h (concat rans) ≡ sum_by (member_taken h) xs + sum_by h (concat lists) + kids_weigh kids h (concat rans)
    allowed : All (Contains given) (concat rans) → All (Contains given) (concat lists)

  ended : (xs : List (Member T P)) (pieces : List P) (rans : List (List ℕ)) → AllZip Has xs rans → AllZip (Finished given kids stands) xs pieces → Ended xs pieces rans
  ended [] [] [] has work = record { lists = []; each = tt; balanced = λ h. refl; allowed = λ a. a }
  ended [] [] (r ∷ rs) has work = absurd has
  ended [] (y ∷ ys) rans has work = absurd work
  ended (x ∷ xs) [] rans has work = absurd work
  ended (x ∷ xs) (y ∷ ys) [] has work = absurd has
  ended (x ∷ xs) (y ∷ ys) (r ∷ rs) has work =
      let w = work.0 in
      let rest = ended xs ys rs has.1 work.1 in
      record {
        lists = (r ++ w.more) ∷ rest.lists;
        each = (w.stands_for r has.0, rest.each);
        balanced = λ h.
            let a = w.balanced h in
            let b = rest.balanced h in
            omega (
              arith,
              sum_by-cons (member_pushed h) x xs,
              sum_by-cons (member_taken h) x xs,
              kids_append kids h r (concat rs),
              kids_append kids h (r ++ w.more) (concat rest.lists),
              kids_append kids h r w.more,
              sum_by-append h r (concat rs),
              sum_by-append h (r ++ w.more) (concat rest.lists),
              sum_by-append h r w.more,
            );
        allowed = λ a.
            All-append (Contains given) (r ++ w.more) (concat rest.lists) (All-append (Contains given) r w.more (All-append_left (Contains given) r (concat rs) a) w.allowed)
            (rest.allowed (All-append_right (Contains given) r (concat rs) a));
      }

  moved : (xs ys : List (Member T P)) (rans : List (List ℕ)) → map own_deque_and_piece ys ≡ map own_deque_and_piece xs → AllZip Has xs rans → AllZip Has ys rans
  moved [] [] [] e has = tt
  moved [] [] (r ∷ rs) e has = absurd has
  moved (x ∷ xs) [] rans e has = cc
  moved [] (y ∷ ys) rans e has = cc
  moved (x ∷ xs) (y ∷ ys) [] e has = absurd has
  moved (x ∷ xs) (y ∷ ys) (r ∷ rs) e has =
      let first : own_deque_and_piece x ≡ own_deque_and_piece y = cc in
      let rest : map own_deque_and_piece ys ≡ map own_deque_and_piece xs = cc in
      (subst (λ p. stands p.1.1 r) first has.0, moved xs ys rs rest has.1)

  zip_of_map : (members : List (Member T P)) (rans : List (List ℕ)) → AllZip stands (map member_piece members) rans → AllZip Has members rans
  zip_of_map [] [] z = tt
  zip_of_map [] (r ∷ rs) z = absurd z
  zip_of_map (c ∷ cs) [] z = absurd z
  zip_of_map (c ∷ cs) (r ∷ rs) z = (z.0, zip_of_map cs rs z.1)

  zip_pieces : (members : List (Member T P)) (rans : List (List ℕ)) → AllZip Has members rans → All (HasPiece stands) members
  zip_pieces [] rans z = All-nil (HasPiece stands)
  zip_pieces (c ∷ cs) [] z = absurd z
  zip_pieces (c ∷ cs) (r ∷ rs) z = All-cons (HasPiece stands) c cs (record { ran = r; has = z.0 }) (zip_pieces cs rs z.1)

  -- each piece stands for some tasks, before the work and after it
  pub pieces_before : (ran : List ℕ) (new : List (Member T P)) → HaveRun stands ran (map member_piece new) → All (HasPiece stands) new
  pieces_before ran new have = zip_pieces new have.lists (zip_of_map new have.lists have.each)

  pub pieces_after : (ran : List ℕ) (new worked home : List (Member T P)) → HaveRun stands ran (map member_piece new) → AllZip (Worked given kids stands) new worked
      → map own_deque_and_piece home ≡ map own_deque_and_piece worked → All (HasPiece stands) home
  pieces_after ran new worked home have work same =
      let run = later new worked have.lists (zip_of_map new have.lists have.each) work in
      zip_pieces home run.next (moved worked home run.next same run.each)

  -- from the start to the last pops
  pub all_ran : (ran waiting : List ℕ) (new worked home : List (Member T P)) (pieces : List P) → HaveRun stands ran (map member_piece new) → Started waiting new → AllZip (Worked given kids stands) new worked
      → map own_deque_and_piece home ≡ map own_deque_and_piece worked → ((h : Weight) → sum_by (member_taken h) home ≡ sum_by (member_taken h) worked) → AllZip (Finished given kids stands) home pieces
      → HaveRunOn given kids stands ran waiting pieces
  all_ran ran waiting new worked home pieces have start work same taken last =
      let run = later new worked have.lists (zip_of_map new have.lists have.each) work in
      let end = ended home pieces run.next (moved worked home run.next same run.each) last in
      record {
        lists = end.lists;
        each = end.each;
        allowed = λ may. end.allowed (run.allowed (subst (All (Contains given)) (sym have.all) may));
        balanced = λ h.
            let a = run.pushed h in
            let b = run.taken h in
            let c = end.balanced h in
            let d = start.pushed h in
            let e = start.taken h in
            let p = sum_through own_deque_and_piece (λ q. sum_by h q.1.0) worked home same in
            let t = taken h in
            let n = ap (kids_weigh kids h) have.all in
            let m = ap (sum_by h) have.all in
            omega arith;
      }
