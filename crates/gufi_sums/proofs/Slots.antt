-- Sums by their slots in blocks, also when blocks go on, are moved, or are let go.
use Rattle.std.proofs.Common.{Bool, true, false, ◌⊎◌, inl, inr, ◌≡◌, ℕ, zero, suc, ◌+◌, ◌<◌, List, [], ◌∷◌, ◌++◌, length, map, take, drop, get_or, set, refl, sym, ap, subst, ◌∙◌, arith}
use Rattle.std.specs.Prelude.{All}
use Rattle.std.proofs.lemmas.Bool.{cases_eq}
use Rattle.std.proofs.lemmas.List.{append_assoc, get_or-set_same, take_more, get_or-map, get_or_push, get_or_append_left, get_or-append-add, length-append, length-map, map-append, take-map, drop-map}
use Rattle.std.proofs.lemmas.List.Elements.{All-take, All-drop, All-append, All-map, All-push, All-weaker}
use Rattle.std.specs.declared.sync.Arc.{Arc}
use Rattle.std.specs.Arc.{arc_value}
use Rattle.gufi_sums.specs.declared.summary.Summary.{Summary}
use Rattle.gufi_sums.specs.declared.blocks.Slot.{Slot}
use Rattle.gufi_sums.specs.declared.blocks.Slots.{Slots}
use Rattle.gufi_sums.specs.Total.{empty}
use Rattle.gufi_sums.specs.SumLists.{SumLists}
use Rattle.gufi_sums.specs.Blocks.{lists_of, sum_at, sums_in, moved, both_moved, Stands, BothStand, Keep, AreMarked, StayMarked, AreKept, AreWithin}

pub Keep-trans : (lists mid after : List (List Summary)) → Keep lists mid → Keep mid after → Keep lists after
Keep-trans lists mid after first second = record { stand = λ s h. second.stand s (first.stand s h); same = λ s h. second.same s (first.stand s h) ∙ first.same s h }

map-same : {X Y : Type 0} (f g : X → Y) (xs : List X) → All (λ x. f x ≡ g x) xs → map f xs ≡ map g xs
map-same f g [] same = refl
map-same f g (x ∷ xs) same = ap (λ y. y ∷ map f xs) (same 0 x (omega arith)) ∙ ap (λ ys. g x ∷ ys) (map-same f g xs (λ k d lt. same (suc k) d (omega (arith, lt))))

both-same : (lists after : List (List Summary)) (slots : List Slots) → All (λ both. sum_at after both.own ≡ sum_at lists both.own) slots → All (λ both. sum_at after both.below ≡ sum_at lists both.below) slots
    → sums_in after slots ≡ sums_in lists slots
both-same lists after slots own below =
    let o = map-same (λ (b : Slots). sum_at after b.own) (λ (b : Slots). sum_at lists b.own) slots own in
    let b = map-same (λ (b : Slots). sum_at after b.below) (λ (b : Slots). sum_at lists b.below) slots below in
    λ i. record { own = o i; below = b i }

-- what keeps each slot keeps all
module _ (lists after : List (List Summary)) (keep : Keep lists after) (slots : List Slots) (all : All (BothStand lists) slots) where
  pub both-kept : All (BothStand after) slots
  both-kept = All-weaker (BothStand lists) (BothStand after) (λ both h. record { own = keep.stand both.own h.own; below = keep.stand both.below h.below }) slots all

  pub sums-kept : sums_in after slots ≡ sums_in lists slots
  sums-kept = both-same lists after slots
      (All-weaker (BothStand lists) _ (λ both h. keep.same both.own h.own) slots all)
      (All-weaker (BothStand lists) _ (λ both h. keep.same both.below h.below) slots all)

  pub sums-pushed : (slot : Slot) (sum : Summary) → sum_at after slot ≡ sum
      → sums_in after (slots ++ record { own = slot; below = slot } ∷ []) ≡ record { own = map (λ (b : Slots). sum_at lists b.own) slots ++ sum ∷ []; below = map (λ (b : Slots). sum_at lists b.below) slots ++ sum ∷ [] }
  sums-pushed slot sum is =
      let both : Slots = record { own = slot; below = slot } in
      let o = map-append (λ (b : Slots). sum_at after b.own) slots (both ∷ []) ∙ ap (λ (s : SumLists). s.own ++ sum_at after slot ∷ []) sums-kept ∙ ap (λ (s : Summary). map (λ (b : Slots). sum_at lists b.own) slots ++ s ∷ []) is in
      let b = map-append (λ (b : Slots). sum_at after b.below) slots (both ∷ []) ∙ ap (λ (s : SumLists). s.below ++ sum_at after slot ∷ []) sums-kept ∙ ap (λ (s : Summary). map (λ (b : Slots). sum_at lists b.below) slots ++ s ∷ []) is in
      λ i. record { own = o i; below = b i }

-- ---- what a push, another sum, or others in their place make

pub pushed_stand : (lists after : List (List Summary)) → Keep lists after → (slots : List Slots) → All (BothStand lists) slots → (slot : Slot) → Stands after slot
    → All (BothStand after) (slots ++ record { own = slot; below = slot } ∷ [])
pushed_stand lists after keep slots all slot here = All-push (BothStand after) slots _ (both-kept lists after keep slots all) (record { own = here; below = here })

map-set : {X Y : Type 0} (f : X → Y) (xs : List X) (i : ℕ) (x : X) → map f (set xs i x) ≡ set (map f xs) i (f x)
map-set f [] i x = refl
map-set f (y ∷ xs) zero x = refl
map-set f (y ∷ xs) (suc i) x = ap (λ ys. f y ∷ ys) (map-set f xs i x)

set-same : {X : Type 0} (xs : List X) (i : ℕ) (x d : X) → x ≡ get_or xs i d → i < length xs → set xs i x ≡ xs
set-same [] i x d is lt = refl
set-same (y ∷ xs) zero x d is lt = ap (λ z. z ∷ xs) is
set-same (y ∷ xs) (suc i) x d is lt = ap (λ ys. y ∷ ys) (set-same xs i x d is (omega (arith, lt)))

pub below_put : (lists after : List (List Summary)) → Keep lists after → (slots : List Slots) → All (BothStand lists) slots → (seen : SumLists) → sums_in lists slots ≡ seen
    → (k : ℕ) (both : Slots) (slot : Slot) (sum : Summary) → k < length slots → both ≡ get_or slots k both → sum_at after slot ≡ sum
    → sums_in after (set slots k (record { own = both.own; below = slot })) ≡ record { own = seen.own; below = set seen.below k sum }
below_put lists after keep slots all seen view k both slot sum lt is found =
    let kept = sums-kept lists after keep slots all ∙ view in
    let new : Slots = record { own = both.own; below = slot } in
    let same : sum_at after both.own ≡ get_or (map (λ (b : Slots). sum_at after b.own) slots) k empty =
    ap (λ (b : Slots). sum_at after b.own) is ∙ sym (get_or-map (λ (b : Slots). sum_at after b.own) slots k both empty lt) in
    let o = map-set (λ (b : Slots). sum_at after b.own) slots k new
    ∙ set-same (map (λ (b : Slots). sum_at after b.own) slots) k (sum_at after both.own) empty same (omega (arith, lt, length-map slots (λ (b : Slots). sum_at after b.own)))
    ∙ ap (λ (s : SumLists). s.own) kept in
    let b = map-set (λ (b : Slots). sum_at after b.below) slots k new ∙ ap (λ (s : SumLists). set s.below k (sum_at after slot)) kept ∙ ap (set seen.below k) found in
    λ i. record { own = o i; below = b i }

-- ---- slots when other blocks follow, and moved behind blocks

stay : (lists more : List (List Summary)) → Keep lists (lists ++ more)
stay lists more = record {
  stand = λ s here.
      let e = ap (λ (l : List Summary). length l) (get_or_append_left lists more [] s.block here.block) in
      record { block = omega (arith, here.block, length-append lists more); within = omega (arith, here.within, e) };
  same = λ s here. ap (λ (l : List Summary). get_or l s.at empty) (get_or_append_left lists more [] s.block here.block);
}

there : (front lists : List (List Summary)) (s : Slot) → get_or (front ++ lists) (s.block + length front) [] ≡ get_or lists s.block []
there front lists s =
    let e : s.block + length front ≡ length front + s.block = omega arith in
    ap (λ (n : ℕ). get_or (front ++ lists) n []) e ∙ get_or-append-add front lists s.block []

go : (front lists : List (List Summary)) (s : Slot) → sum_at (front ++ lists) (moved (length front) s) ≡ sum_at lists s
go front lists s = ap (λ (l : List Summary). get_or l s.at empty) (there front lists s)

stand_moved : (front lists : List (List Summary)) (s : Slot) → Stands lists s → Stands (front ++ lists) (moved (length front) s)
stand_moved front lists s here =
    record { block = omega (arith, here.block, length-append front lists); within = omega (arith, here.within, ap (λ (l : List Summary). length l) (there front lists s)) }

module _ (xs ys bs : List (List Summary)) (slots more new : List Slots) (at end by : ℕ) (joined : bs ≡ xs ++ ys) (behind : by ≡ length xs)
    (is : new ≡ take at slots ++ (map (both_moved by) more ++ drop end slots)) (all : All (BothStand xs) slots) (each : All (BothStand ys) more) where
  whole : new ≡ take at slots ++ (map (both_moved (length xs)) more ++ drop end slots)
  whole = is ∙ ap (λ (n : ℕ). take at slots ++ (map (both_moved n) more ++ drop end slots)) behind

  pub splice_stands : All (BothStand bs) new
  splice_stands =
      let kept = both-kept xs (xs ++ ys) (stay xs ys) slots all in
      let put : All (BothStand (xs ++ ys)) (map (both_moved (length xs)) more) =
      All-map (BothStand (xs ++ ys)) (both_moved (length xs)) more (λ k d lt. record { own = stand_moved xs ys (get_or more k d).own (each k d lt).own; below = stand_moved xs ys (get_or more k d).below (each k d lt).below }) in
      subst (λ (l : List (List Summary)). All (BothStand l) new) (sym joined) (subst (λ (l : List Slots). All (BothStand (xs ++ ys)) l) (sym whole)
      (All-append (BothStand (xs ++ ys)) _ _ (All-take (BothStand (xs ++ ys)) at slots kept) (All-append (BothStand (xs ++ ys)) _ _ put (All-drop (BothStand (xs ++ ys)) end slots kept))))

  parts : (f g : Slots → Summary) (h : Slots → Summary) → map f slots ≡ map g slots → ((b : Slots) → f (both_moved (length xs) b) ≡ h b)
      → map f (take at slots ++ (map (both_moved (length xs)) more ++ drop end slots)) ≡ take at (map g slots) ++ (map h more ++ drop end (map g slots))
  parts f g h same moves =
      map-append f (take at slots) (map (both_moved (length xs)) more ++ drop end slots)
      ∙ ap (λ (l : List Summary). map f (take at slots) ++ l) (map-append f (map (both_moved (length xs)) more) (drop end slots) ∙ ap (λ (l : List Summary). l ++ map f (drop end slots)) (through more))
      ∙ ap (λ (l : List Summary). l ++ (map h more ++ map f (drop end slots))) (sym (take-map f at slots) ∙ ap (take at) same)
      ∙ ap (λ (l : List Summary). take at (map g slots) ++ (map h more ++ l)) (sym (drop-map f end slots) ∙ ap (drop end) same) where
        through : (ms : List Slots) → map f (map (both_moved (length xs)) ms) ≡ map h ms
        through [] = refl
        through (m ∷ ms) = ap (λ (s : Summary). s ∷ map f (map (both_moved (length xs)) ms)) (moves m) ∙ ap (λ (l : List Summary). h m ∷ l) (through ms)

  pub splice_is : sums_in bs new ≡ record {
    own = take at (sums_in xs slots).own ++ ((sums_in ys more).own ++ drop end (sums_in xs slots).own);
    below = take at (sums_in xs slots).below ++ ((sums_in ys more).below ++ drop end (sums_in xs slots).below);
  }
  splice_is =
      let kept = sums-kept xs (xs ++ ys) (stay xs ys) slots all in
      let o = parts (λ (b : Slots). sum_at (xs ++ ys) b.own) (λ (b : Slots). sum_at xs b.own) (λ (b : Slots). sum_at ys b.own) (ap (λ (s : SumLists). s.own) kept) (λ b. go xs ys b.own) in
      let b = parts (λ (b : Slots). sum_at (xs ++ ys) b.below) (λ (b : Slots). sum_at xs b.below) (λ (b : Slots). sum_at ys b.below) (ap (λ (s : SumLists). s.below) kept) (λ b. go xs ys b.below) in
      ap (λ (l : List (List Summary)). sums_in l new) joined ∙ ap (sums_in (xs ++ ys)) whole ∙ (λ i. record { own = o i; below = b i })

-- ---- blocks that are let go

-- what is kept of marked blocks, and the last one
kept_lists : (blocks kept : List (List Summary)) (marks : List Bool) (last : List Summary) → AreKept blocks marks kept (length blocks) → (n : ℕ) → n < length (blocks ++ last ∷ []) → get_or marks n false ≡ true
    → get_or (kept ++ last ∷ []) n [] ≡ get_or (blocks ++ last ∷ []) n []
kept_lists blocks kept marks last are n lt marked = by (cases_eq n (length blocks)) where
  by : (n ≡ length blocks) ⊎ (n ≡ length blocks → ⊥) → get_or (kept ++ last ∷ []) n [] ≡ get_or (blocks ++ last ∷ []) n []
  by (inl e) = get_or_push kept last [] n (are.len ∙ sym e) ∙ sym (get_or_push blocks last [] n (sym e))
  by (inr ne) =
      let less : n < length blocks = omega (arith, lt, ne, length-append blocks (last ∷ [])) in
      get_or_append_left kept (last ∷ []) [] n (omega (arith, less, are.len)) ∙ are.each n less marked ∙ sym (get_or_append_left blocks (last ∷ []) [] n less)

module _ (blocks kept : List (List Summary)) (marks : List Bool) (last : List Summary) (are : AreKept blocks marks kept (length blocks)) where
  kept_there : (s : Slot) → Stands (blocks ++ last ∷ []) s → get_or marks s.block false ≡ true → get_or (kept ++ last ∷ []) s.block [] ≡ get_or (blocks ++ last ∷ []) s.block []
  kept_there s here marked = kept_lists blocks kept marks last are s.block here.block marked

  kept_stands : (s : Slot) → Stands (blocks ++ last ∷ []) s → get_or marks s.block false ≡ true → Stands (kept ++ last ∷ []) s
  kept_stands s here marked = record {
    block = omega (arith, here.block, are.len, length-append blocks (last ∷ []), length-append kept (last ∷ []));
    within = omega (arith, here.within, ap (λ (l : List Summary). length l) (kept_there s here marked));
  }

  pub used_stand : (slots : List Slots) → All (BothStand (blocks ++ last ∷ [])) slots → All (AreMarked marks) slots → All (BothStand (kept ++ last ∷ [])) slots
  used_stand slots all marked = λ k d lt. record {
    own = kept_stands (get_or slots k d).own (all k d lt).own (marked k d lt).own;
    below = kept_stands (get_or slots k d).below (all k d lt).below (marked k d lt).below;
  }

  pub used_sums : (slots : List Slots) → All (BothStand (blocks ++ last ∷ [])) slots → All (AreMarked marks) slots → sums_in (kept ++ last ∷ []) slots ≡ sums_in (blocks ++ last ∷ []) slots
  used_sums slots all marked = both-same (blocks ++ last ∷ []) (kept ++ last ∷ []) slots
      (λ k d lt. ap (λ (l : List Summary). get_or l (get_or slots k d).own.at empty) (kept_there (get_or slots k d).own (all k d lt).own (marked k d lt).own))
      (λ k d lt. ap (λ (l : List Summary). get_or l (get_or slots k d).below.at empty) (kept_there (get_or slots k d).below (all k d lt).below (marked k d lt).below))

-- ---- the lists of blocks that are put together

pub lists_joined : {Z : Type 0} (blocks : List (Arc (List Summary) Z)) (last : List Summary) (more : List (Arc (List Summary) Z)) (more_last : List Summary) (joined : List (Arc (List Summary) Z)) (joined_last : List Summary)
    → map arc_value joined ≡ lists_of blocks last ++ map arc_value more → joined_last ≡ more_last → lists_of joined joined_last ≡ lists_of blocks last ++ lists_of more more_last
lists_joined blocks last more more_last joined joined_last is same =
    ap (λ (l : List (List Summary)). l ++ joined_last ∷ []) is ∙ append_assoc (lists_of blocks last) (map arc_value more) (joined_last ∷ [])
    ∙ ap (λ (l : List Summary). lists_of blocks last ++ (map arc_value more ++ l ∷ [])) same

pub lists_behind : {Z : Type 0} (blocks : List (Arc (List Summary) Z)) (last : List Summary) (by : ℕ) → by ≡ length blocks + 1 → by ≡ length (lists_of blocks last)
lists_behind blocks last by is = omega (arith, is, length-append (map arc_value blocks) (last ∷ []), length-map blocks arc_value)

-- ---- marks

-- a mark more
pub marked_one : (marks : List Bool) (k : ℕ) → k < length marks → get_or (set marks k true) k false ≡ true
marked_one marks k lt = get_or-set_same marks k true false lt

pub marked_others : (marks : List Bool) (k : ℕ) → StayMarked marks (set marks k true)
marked_others [] k m h = h
marked_others (b ∷ marks) zero zero h = refl
marked_others (b ∷ marks) zero (suc m) h = h
marked_others (b ∷ marks) (suc k) zero h = h
marked_others (b ∷ marks) (suc k) (suc m) h = marked_others marks k m h

-- the blocks of one directory more
pub marked_more : (marks mid after : List Bool) (slots : List Slots) (i : ℕ) (d : Slots) → i < length slots → All (AreMarked marks) (take i slots) → StayMarked marks mid → StayMarked mid after
    → get_or mid (get_or slots i d).own.block false ≡ true → get_or after (get_or slots i d).below.block false ≡ true → All (AreMarked after) (take (i + 1) slots)
marked_more marks mid after slots i d lt all first second own below =
    subst (λ l. All (AreMarked after) l) (sym (take_more slots i d lt))
    (All-push (AreMarked after) (take i slots) (get_or slots i d)
    (All-weaker (AreMarked marks) (AreMarked after) (λ both h. record { own = second _ (first _ h.own); below = second _ (first _ h.below) }) (take i slots) all)
    (record { own = second _ own; below = below }))

pub within_lists : {Z : Type 0} (blocks : List (Arc (List Summary) Z)) (last : List Summary) (slots : List Slots) (n : ℕ) → n ≡ length blocks + 1 → All (BothStand (lists_of blocks last)) slots → All (AreWithin n) slots
within_lists blocks last slots n is all = All-weaker (BothStand (lists_of blocks last)) (AreWithin n)
    (λ both h. record {
      own = omega (arith, h.own.block, is, length-append (map arc_value blocks) (last ∷ []), length-map blocks arc_value);
      below = omega (arith, h.below.block, is, length-append (map arc_value blocks) (last ∷ []), length-map blocks arc_value);
    }) slots all
