-- The first delimiter, sought in a block of bytes.
use Rattle.std.proofs.Common.{◌≡◌, ℕ, zero, suc, ◌+◌, ◌-◌, ◌*◌, ◌%◌, ◌^◌, ◌<◌, ◌≤◌, Bool, true, false, not, cond, eqb, List, [], ◌∷◌, length, get_or, take, drop, map, replicate, Some, None, refl, sym, ap, subst, ◌∙◌, arith, ⊎_elim}
use Rattle.std.specs.List.{position, prefix_len}
use Rattle.std.proofs.lemmas.Bool.{true≢false, false≢true, not-true, cases_lt}
use Rattle.std.proofs.lemmas.List.{length-take-le, length-drop, get_or-take, get_or-drop}
use Rattle.std.proofs.lemmas.List.Sums.{prefix_len_passes, prefix_len_stops}
use Rattle.std.proofs.lemmas.Simd.{bitmask_splat, trailing_mask_l}
use Rattle.gufi_line.proofs.FirstParts.{first_place, first_byte}
use Rattle.std.proofs.lemmas.List.Quantifiers.{position-Some}
use Rattle.memchr.specs.Find.{IsFirstByte, is_byte}
use lib.Count.{count_trailing_zeros}
use lib.Lanes.{zip2, mask_l, top}
use mir.Syntax.{w8}
use mir.Val.{bits, hbits}

above_zero : (n : ℕ) → (n ≡ 0 → ⊥) → 0 < n
above_zero zero h = absurd (h refl)
above_zero (suc n) h = omega arith

not_false : (b : Bool) → not b ≡ false → b ≡ true
not_false true e = refl
not_false false e = absurd (true≢false e)

-- how many bytes come before the first s
abbrev before : ℕ → List ℕ → ℕ
before s xs = prefix_len (λ x. not (eqb x s)) xs

-- where no byte is s, no bit is set
none_set : (s : ℕ) (xs : List ℕ) → length xs ≤ before s xs → mask_l (map (λ x. eqb x s) xs) ≡ 0
none_set s [] h = refl
none_set s (x ∷ xs) h = by (eqb x s) (none_set s xs) h
  where
    by : (t : Bool) → (length xs ≤ before s xs → mask_l (map (λ y. eqb y s) xs) ≡ 0) → length (x ∷ xs) ≤ cond (not t) (1 + before s xs) 0 → cond t 1 0 + 2 * mask_l (map (λ y. eqb y s) xs) ≡ 0
    by true rest h = absurd (omega arith)
    by false rest h = omega (arith, rest (omega arith))

-- and where no bit is set, no byte is s
all_before : (s : ℕ) (xs : List ℕ) → mask_l (map (λ x. eqb x s) xs) ≡ 0 → length xs ≤ before s xs
all_before s [] h = omega arith
all_before s (x ∷ xs) h = by (eqb x s) (all_before s xs) h
  where
    by : (t : Bool) → (mask_l (map (λ y. eqb y s) xs) ≡ 0 → length xs ≤ before s xs) → cond t 1 0 + 2 * mask_l (map (λ y. eqb y s) xs) ≡ 0 → length (x ∷ xs) ≤ cond (not t) (1 + before s xs) 0
    by true rest h = absurd (omega arith)
    by false rest h = let r = rest (omega arith) in omega arith

in_block : (s : ℕ) (text : List ℕ) (k : ℕ) → 64 ≤ length text → k ≡ before s (take 64 text) → k < 64 → Some k ≡ position (λ b. eqb b s) text
in_block s text k long is low =
    let block = take 64 text in
    let len : length block ≡ 64 = length-take-le 64 text long in
    let stops = not_false _ (prefix_len_stops (λ x. not (eqb x s)) block 0 (omega (arith, is, low, len))) in
    let here = ap (λ i. get_or block i 0) is in
    first_place s text (Some k) (
      record {
        low = omega arith;
        high = omega arith;
        before = λ j least below pass.
            let passed = not-true _ (prefix_len_passes (λ x. not (eqb x s)) block j 0 (omega (arith, is, below))) in
            false≢true (sym passed ∙ ap (λ b. eqb b s) (get_or-take 64 text j 0 (omega arith)) ∙ pass);
      },
      ap (λ b. eqb b s) (sym (get_or-take 64 text k 0 low) ∙ here) ∙ stops,
    )

-- the first bit that is set where the first 64 bytes are compared with s
pub near_end : (s : ℕ) (text : List ℕ) → 64 ≤ length text
    → (mask_l (map (top (hbits w8)) (zip2 (λ x y. cond (eqb x y) (2 ^ bits w8 - 1) 0) (take 64 text) (replicate 64 s))) % 2 ^ 64 ≡ 0 → ⊥)
    → Some (count_trailing_zeros 64 (mask_l (map (top (hbits w8)) (zip2 (λ x y. cond (eqb x y) (2 ^ bits w8 - 1) 0) (take 64 text) (replicate 64 s))) % 2 ^ 64)) ≡ position (λ b. eqb b s) text
near_end s text long some =
    let block = take 64 text in
    let len : length block ≡ 64 = length-take-le 64 text long in
    let is = bitmask_splat w8 eqb block 64 s len (omega arith) in
    let set : 0 < mask_l (map (λ x. eqb x s) block) = above_zero _ (λ none. some (is ∙ none)) in
    let low : before s block < 64 = ⊎_elim (λ (l : before s block < 64). l) (λ (g : 64 ≤ before s block). absurd (some (is ∙ none_set s block (omega arith)))) (cases_lt (before s block) 64) in
    let place = ap (count_trailing_zeros 64) is ∙ trailing_mask_l (λ x. eqb x s) 64 block (omega arith) set in
    in_block s text _ long place (omega (arith, place))

-- none of the first so many bytes is s
abbrev pub IsClear : ℕ → List ℕ → ℕ → Type 0
IsClear s text at = (k : ℕ) → k < at → eqb (get_or text k 0) s ≡ false

-- a byte of what is left behind a place
left_at : (s : ℕ) (text : List ℕ) (at j k : ℕ) → at + j ≡ k → eqb (get_or (drop at text) j 0) s ≡ eqb (get_or text k 0) s
left_at s text at j k e = ap (λ b. eqb b s) (get_or-drop at text j 0 ∙ ap (λ i. get_or text i 0) e)

-- so many bytes more, where no bit is set
pub clear_more : (s : ℕ) (text : List ℕ) (at : ℕ) → at + 64 ≤ length text → IsClear s text at
    → mask_l (map (top (hbits w8)) (zip2 (λ x y. cond (eqb x y) (2 ^ bits w8 - 1) 0) (take 64 (drop at text)) (replicate 64 s))) % 2 ^ 64 ≡ 0
    → IsClear s text (at + 64)
clear_more s text at within clear none = λ k below. ⊎_elim (λ (l : k < at). clear k l) (λ (g : at ≤ k). later k g below) (cases_lt k at)
  where
    later : (k : ℕ) → at ≤ k → k < at + 64 → eqb (get_or text k 0) s ≡ false
    later k g below =
        let rest = drop at text in
        let block = take 64 rest in
        let len : length block ≡ 64 = length-take-le 64 rest (let d = length-drop at text in omega arith) in
        let seen = all_before s block (sym (bitmask_splat w8 eqb block 64 s len (omega arith)) ∙ none) in
        let j = k - at in
        let low : j < 64 = omega arith in
        let passed = not-true _ (prefix_len_passes (λ x. not (eqb x s)) block j 0 (omega arith)) in
        sym (ap (λ b. eqb b s) (get_or-take 64 rest j 0 low) ∙ left_at s text at j k (omega arith)) ∙ passed

-- the first place behind a clear front is the first of all
pub some_behind : (s : ℕ) (text : List ℕ) (at k : ℕ) → IsClear s text at → Some k ≡ position (λ b. eqb b s) (drop at text) → Some (at + k) ≡ position (λ b. eqb b s) text
some_behind s text at k clear e =
    let h = position-Some (λ b. eqb b s) (drop at text) k 0 (sym e) in
    let earlier : (j : ℕ) → j < at + k → eqb (get_or text j 0) s ≡ false =
    λ j below. ⊎_elim (λ (l : j < at). clear j l) (λ (g : at ≤ j). sym (left_at s text at (j - at) j (omega arith)) ∙ h.2 (j - at) (omega arith)) (cases_lt j at) in
    first_place s text (Some (at + k)) (
      record { low = omega arith; high = (let d = length-drop at text in let i = h.0 in omega arith); before = λ j least below pass. false≢true (sym (earlier j below) ∙ pass) },
      sym (left_at s text at k (at + k) refl) ∙ h.1,
    )

pub none_behind : (s : ℕ) (text : List ℕ) (at : ℕ) → IsClear s text at → None ≡ position (λ b. eqb b s) (drop at text) → None ≡ position (λ b. eqb b s) text
none_behind s text at clear e =
    let none = subst (λ r. IsFirstByte (is_byte s) (drop at text) r) (sym e) (first_byte s (drop at text)) in
    first_place s text None (λ j low lt pass. ⊎_elim (λ (l : j < at). false≢true (sym (clear j l) ∙ pass))
    (λ (g : at ≤ j). none (j - at) (omega arith) (let d = length-drop at text in omega arith) (left_at s text at (j - at) j (omega arith) ∙ pass)) (cases_lt j at))
