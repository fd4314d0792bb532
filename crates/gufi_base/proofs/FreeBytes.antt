-- Bytes sought in blocks.
use Rattle.std.proofs.Common.{◌≡◌, ℕ, ◌+◌, ◌-◌, ◌*◌, ◌%◌, ◌^◌, ◌≤◌, Bool, true, false, not, ◌&&◌, ◌||◌, cond, eqb, List, [], ◌∷◌, length, take, drop, map, replicate, bit_or, refl, sym, ap, ◌∙◌, arith, ⊎_elim}
use Rattle.std.specs.List.{list_all, list_any}
use Rattle.std.proofs.lemmas.Bool.{true≢false, cases_eq, eq-eqb, ne_eqb}
use Rattle.std.proofs.lemmas.List.{take_all, take-append-drop, length-drop, length-map}
use Rattle.std.proofs.lemmas.List.Folds.{list_all-append}
use Rattle.std.proofs.lemmas.Simd.{mask_l-mod, chunk-drop, length-chunk, zip2_splat, zip2_of_maps}
use Rattle.gufi_base.specs.Names.{is_path_byte, is_path_byte_but}
use lib.Lanes.{chunk, zip2, mask_l, top}

abbrev hit : ℕ → ℕ → ℕ
hit x y = cond (eqb x y) 255 0

-- what three comparisons leave in the lane of a byte
abbrev lane : ℕ → ℕ → ℕ
lane other x = bit_or (bit_or (hit x 0) (hit x 10)) (hit x other)

top_of : (a b c : Bool) → top 7 (bit_or (bit_or (cond a 255 0) (cond b 255 0)) (cond c 255 0)) ≡ not (not a && not b && not c)
top_of true true true = refl
top_of true true false = refl
top_of true false true = refl
top_of true false false = refl
top_of false true true = refl
top_of false true false = refl
top_of false false true = refl
top_of false false false = refl

tops : (other : ℕ) (xs : List ℕ) → map (top 7) (map (lane other) xs) ≡ map (λ x. not (is_path_byte_but other x)) xs
tops other [] = refl
tops other (x ∷ xs) = λ i. top_of (eqb x 0) (eqb x 10) (eqb x other) i ∷ tops other xs i

next_clear : (t : Bool) (n : ℕ) (r : Bool) → eqb n 0 ≡ r → eqb (cond (not t) 1 0 + 2 * n) 0 ≡ (t && r)
next_clear false n r e = ne_eqb (1 + 2 * n) 0 (λ h. omega arith)
next_clear true n r e =
    ⊎_elim (λ (z : n ≡ 0). eq-eqb (0 + 2 * n) 0 (omega arith) ∙ sym (eq-eqb n 0 z) ∙ e)
    (λ (some : n ≡ 0 → ⊥). ne_eqb (0 + 2 * n) 0 (λ h. some (omega arith)) ∙ sym (ne_eqb n 0 some) ∙ e)
    (cases_eq n 0)

clear : (p : ℕ → Bool) (xs : List ℕ) → eqb (mask_l (map (λ x. not (p x)) xs)) 0 ≡ list_all p xs
clear p [] = refl
clear p (x ∷ xs) = next_clear (p x) (mask_l (map (λ y. not (p y)) xs)) (list_all p xs) (clear p xs)

-- no lane of a block is set where all of its bytes are free
pub free_block : (other : ℕ) (xs : List ℕ) (at n : ℕ) → at + n ≤ length xs → n ≤ 64
    → eqb (mask_l (map (top 7) (zip2 bit_or (zip2 bit_or (zip2 hit (chunk at n xs) (replicate n 0)) (zip2 hit (chunk at n xs) (replicate n 10))) (zip2 hit (chunk at n xs) (replicate n other)))) % 2 ^ 64) 0
    ≡ list_all (is_path_byte_but other) (chunk at n xs)
free_block other xs at n room few =
    let v = chunk at n xs in
    let long = length-chunk at n xs room in
    let two = zip2_of_maps bit_or _ _ v (zip2_splat hit v n 0 long) (zip2_splat hit v n 10 long) in
    let lanes = zip2_of_maps bit_or _ _ v two (zip2_splat hit v n other long) in
    let short : length (map (λ x. not (is_path_byte_but other x)) v) ≤ 64 = omega (arith, length-map v (λ x. not (is_path_byte_but other x)), long, few) in
    ap (λ l. eqb (mask_l l % 2 ^ 64) 0) (ap (map (top 7)) lanes ∙ tops other v) ∙ ap (λ m. eqb m 0) (mask_l-mod _ 64 short) ∙ clear (is_path_byte_but other) v

-- a whole that its end decides is decided by a longer end too
by_longer_end : (w a l b d : Bool) → w ≡ (a && l) → w ≡ d → l ≡ (b && d) → w ≡ l
by_longer_end w a true true true e f g = f
by_longer_end w a true true false e f g = f ∙ sym g
by_longer_end w a true false d e f g = absurd (true≢false g)
by_longer_end w true false b d e f g = e
by_longer_end w false false b d e f g = e

module _ (p : ℕ → Bool) (xs : List ℕ) where
  parted : (at n : ℕ) → list_all p (drop at xs) ≡ (list_all p (chunk at n xs) && list_all p (drop (at + n) xs))
  parted at n = ap (list_all p) (chunk-drop at n xs) ∙ list_all-append p (chunk at n xs) (drop (at + n) xs)

  -- what stands behind a block that passes decides
  pub decided_behind : (at n : ℕ) → list_all p xs ≡ list_all p (drop at xs) → list_all p (chunk at n xs) ≡ true → list_all p xs ≡ list_all p (drop (at + n) xs)
  decided_behind at n all passes = all ∙ parted at n ∙ ap (λ b. b && list_all p (drop (at + n) xs)) passes

  pub decided_at : (at n : ℕ) → list_all p xs ≡ list_all p (drop at xs) → list_all p (chunk at n xs) ≡ false → list_all p xs ≡ false
  decided_at at n all fails = all ∙ parted at n ∙ ap (λ b. b && list_all p (drop (at + n) xs)) fails

  -- and so does a last block that begins no later
  pub decided_by_last : (at n last : ℕ) → list_all p xs ≡ list_all p (drop at xs) → last ≤ at → length xs ≤ last + n → list_all p (chunk last n xs) ≡ list_all p xs
  decided_by_last at n last all le whole =
      let back : last + (at - last) ≡ at = omega arith in
      let rest = take_all n (drop last xs) (omega (arith, length-drop last xs, whole)) in
      let behind = parted last (at - last) ∙ ap (λ k. list_all p (chunk last (at - last) xs) && list_all p (drop k xs)) back in
      let front = sym (ap (list_all p) (take-append-drop last xs)) ∙ list_all-append p (take last xs) (drop last xs) in
      ap (list_all p) rest ∙ sym (by_longer_end _ _ _ _ _ front all behind)

-- a byte sought twice is sought once
once : (a b : Bool) → (a && b && b) ≡ (a && b)
once true true = refl
once true false = refl
once false b = refl

pub newline_once : (xs : List ℕ) → list_all (is_path_byte_but 10) xs ≡ list_all is_path_byte xs
newline_once [] = refl
newline_once (x ∷ xs) = λ i. once (not (eqb x 0)) (not (eqb x 10)) i && newline_once xs i

-- some byte is not free where not all are
pub any_not : (p : ℕ → Bool) (xs : List ℕ) → list_any (λ x. not (p x)) xs ≡ not (list_all p xs)
any_not p [] = refl
any_not p (x ∷ xs) = ap (λ b. not (p x) || b) (any_not p xs) ∙ neither_all (p x) (list_all p xs)
  where
    neither_all : (a b : Bool) → (not a || not b) ≡ not (a && b)
    neither_all true b = refl
    neither_all false b = refl
