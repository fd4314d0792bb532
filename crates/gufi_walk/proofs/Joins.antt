-- Chunks of rows, and what they come to.
use Rattle.std.proofs.Common.{◌≡◌, ℕ, ◌+◌, ◌≤◌, List, [], ◌∷◌, ◌++◌, length, refl, sym, ap, ◌∙◌, subst, arith, append_assoc, length-append}
use Rattle.std.specs.List.{flat_map, AllZip, concat}
use Rattle.std.specs.List.Sorted.{IsPermutation}
use Rattle.std.proofs.lemmas.Grind.{flat_map-append}
use Rattle.std.proofs.lemmas.List.{append-nil}
use Rattle.std.proofs.lemmas.List.Sorted.{IsPermutation-refl, IsPermutation-trans, IsPermutation-append_left, IsPermutation-append_right, IsPermutation-append_comm}
use Rattle.gufi_base.specs.declared.record.Row.{Row}
use Rattle.gufi_base.proofs.Permutations.{IsPermutation-respected}
use Rattle.gufi_walk.specs.declared.chunk.Chunk.{Chunk}
use Rattle.gufi_walk.specs.Chunks.{Hold}

-- the first of three lists changes places with the second, and the second with the third
turned_front : {X : Type 0} (a b c : List X) → IsPermutation (a ++ (b ++ c)) (b ++ (a ++ c))
turned_front a b c = rw (← append_assoc a b c, ← append_assoc b a c) (IsPermutation-append_left c (a ++ b) (b ++ a) (IsPermutation-append_comm a b))

turned_back : {X : Type 0} (a b c : List X) → IsPermutation ((a ++ b) ++ c) ((a ++ c) ++ b)
turned_back a b c = rw (append_assoc a b c, append_assoc a c b) (IsPermutation-append_right a (b ++ c) (c ++ b) (IsPermutation-append_comm b c))

module _ {Y : Type 0} (stands_for : Y → List Row → Type 0) where
  -- of chunks that hold rows, in another order
  pub hold_moved : (xs ys : List (Chunk Y)) → IsPermutation xs ys → (rows : List Row) → Hold stands_for xs rows → Hold stands_for ys rows
  hold_moved =
      IsPermutation-respected (λ xs ys. (rows : List Row) → Hold stands_for xs rows → Hold stands_for ys rows) (λ xs rows h. h) (λ us vs ws p q rows h. q rows (p rows h)) (λ xs. xs)
      (λ x xs ys more rows h. (h.0, h.1, h.2, h.3, more h.1 h.4, h.5))
      (λ x y xs rows h.
      let k = h.4 in (
        k.0,
        h.0 ++ k.1,
        k.2,
        k.3,
        (h.0, k.1, h.2, h.3, k.4, IsPermutation-refl (h.0 ++ k.1)),
        IsPermutation-trans _ _ _ h.5 (IsPermutation-trans _ _ _ (IsPermutation-append_right h.0 h.1 (k.0 ++ k.1) k.5) (turned_front h.0 k.0 k.1)),
      ))

  hold_append : (xs ys : List (Chunk Y)) (a b : List Row) → Hold stands_for xs a → Hold stands_for ys b → Hold stands_for (xs ++ ys) (a ++ b)
  hold_append [] ys a b h k = subst (λ l. Hold stands_for ys (l ++ b)) (sym h) k
  hold_append (x ∷ xs) ys a b h k = (
    h.0,
    h.1 ++ b,
    h.2,
    h.3,
    hold_append xs ys h.1 b h.4 k,
    subst (IsPermutation (a ++ b)) (append_assoc h.0 h.1 b) (IsPermutation-append_left b a (h.0 ++ h.1) h.5),
  )

  -- what all pieces hold
  pub hold_all : {V : Type 0} (items : V → List (Chunk Y)) (rows_of : ℕ → List Row) (stands : V → List ℕ → Type 0) → ((p : V) (ran : List ℕ) → stands p ran → Hold stands_for (items p) (flat_map rows_of ran))
      → (pieces : List V) (lists : List (List ℕ)) → AllZip stands pieces lists → Hold stands_for (flat_map items pieces) (flat_map rows_of (concat lists))
  hold_all items rows_of stands holds [] [] z = refl
  hold_all items rows_of stands holds [] (l ∷ ls) z = absurd z
  hold_all items rows_of stands holds (p ∷ ps) [] z = absurd z
  hold_all items rows_of stands holds (p ∷ ps) (l ∷ ls) z =
      subst (Hold stands_for (items p ++ flat_map items ps)) (sym (flat_map-append rows_of l (concat ls)))
      (hold_append (items p) (flat_map items ps) (flat_map rows_of l) (flat_map rows_of (concat ls)) (holds p l z.0) (hold_all items rows_of stands holds ps ls z.1))

  -- a chunk of no row more
  pub hold_none : (c : Chunk Y) (cs : List (Chunk Y)) (rows : List Row) → stands_for c.rows [] → Hold stands_for cs rows → Hold stands_for (c ∷ cs) rows
  hold_none c cs rows none h = ([], rows, none, omega arith, h, IsPermutation-refl rows)

  -- a chunk whose rows have been put in order
  pub hold_settled : (c next : Chunk Y) (cs : List (Chunk Y)) (rows : List Row) → ((of : List Row) → stands_for c.rows of → stands_for next.rows of) → next.most ≡ c.most → Hold stands_for (c ∷ cs) rows → Hold stands_for (next ∷ cs) rows
  hold_settled c next cs rows same most h = (h.0, h.1, same h.0 h.2, omega (arith, h.3, most), h.4, h.5)

  -- a chunk with more rows
  pub hold_more : (c next : Chunk Y) (cs : List (Chunk Y)) (rows more : List Row) (n : ℕ) → ((of : List Row) → stands_for c.rows of → stands_for next.rows (of ++ more)) → length more ≤ n → next.most ≡ c.most + n
      → Hold stands_for (c ∷ cs) rows → Hold stands_for (next ∷ cs) (rows ++ more)
  hold_more c next cs rows more n added few most h = (
    h.0 ++ more,
    h.1,
    added h.0 h.2,
    omega (arith, few, most, h.3, length-append h.0 more),
    h.4,
    IsPermutation-trans _ _ _ (IsPermutation-append_left more rows (h.0 ++ h.1) h.5) (turned_back h.0 h.1 more),
  )

-- the rows of one task more
pub rows_more : (rows_of : ℕ → List Row) (ran : List ℕ) (task : ℕ) → flat_map rows_of (ran ++ task ∷ []) ≡ flat_map rows_of ran ++ rows_of task
rows_more rows_of ran task = flat_map-append rows_of ran (task ∷ []) ∙ ap (λ l. flat_map rows_of ran ++ l) (append-nil (rows_of task))
