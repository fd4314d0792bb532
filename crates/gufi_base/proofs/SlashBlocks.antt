-- Slashes counted in blocks.
use Rattle.std.proofs.Common.{◌≡◌, ℕ, zero, suc, ◌+◌, ◌-◌, ◌*◌, ◌/◌, ◌%◌, ◌^◌, ◌≤◌, Bool, true, false, cond, eqb, List, [], ◌∷◌, ◌++◌, length, take, drop, map, replicate, count_ones, sym, ap, ◌∙◌, arith, w8}
use Rattle.std.proofs.Math.Seq.{take-add}
use Rattle.std.specs.List.{filter}
use Rattle.std.proofs.lemmas.List.{take-append-drop, take_all, drop-drop, drop-map, length-append, length-drop}
use Rattle.std.proofs.lemmas.List.Elements.{filter-append}
use Rattle.std.proofs.lemmas.List.Sums.{length-filter}
use Rattle.std.proofs.lemmas.Simd.{bitmask_splat, ones-mask_l, length-chunk}
use native.Mathlib.Nat.{pow-suc, mul_comm, zero-div, div-one, div-div-eq-div-mul}
use lib.Lanes.{chunk, zip2, mask_l, top}

abbrev is_slash : ℕ → Bool
is_slash b = eqb b 47

-- how many slashes there are
abbrev slashes : List ℕ → ℕ
slashes bytes = length (filter is_slash bytes)

upper : (b : Bool) (n : ℕ) → (cond b 1 0 + 2 * n) / 2 ≡ n
upper true n = omega arith
upper false n = omega arith

-- a mask without its lowest lanes
mask_behind : (lanes : List Bool) (k : ℕ) → mask_l lanes / 2 ^ k ≡ mask_l (drop k lanes)
mask_behind lanes zero = div-one (mask_l lanes)
mask_behind [] (suc k) = zero-div (2 ^ suc k)
mask_behind (b ∷ lanes) (suc k) =
    ap (λ n. mask_l (b ∷ lanes) / n) (pow-suc 2 k ∙ mul_comm (2 ^ k) 2) ∙ sym (div-div-eq-div-mul (mask_l (b ∷ lanes)) 2 (2 ^ k)) ∙ ap (λ n. n / 2 ^ k) (upper b (mask_l lanes))
    ∙ mask_behind lanes k

pub slashes_in_block : (xs : List ℕ) (at n behind : ℕ) → at + n ≤ length xs → n ≤ 64
    → count_ones (mask_l (map (top 7) (zip2 (λ a b. cond (eqb a b) 255 0) (chunk at n xs) (replicate n 47))) % 2 ^ 64 / 2 ^ behind) ≡ slashes (drop behind (chunk at n xs))
slashes_in_block xs at n behind room few =
    let v = chunk at n xs in
    let mask = bitmask_splat w8 eqb v n 47 (length-chunk at n xs room) few in
    ap (λ m. count_ones (m / 2 ^ behind)) mask ∙ ap count_ones (mask_behind (map is_slash v) behind) ∙ ap (λ (l : List Bool). count_ones (mask_l l)) (drop-map is_slash behind v)
    ∙ ones-mask_l is_slash (drop behind v) ∙ sym (length-filter is_slash (drop behind v))

slashes-append : (xs ys : List ℕ) → slashes (xs ++ ys) ≡ slashes xs + slashes ys
slashes-append xs ys = ap length (filter-append is_slash xs ys) ∙ length-append (filter is_slash xs) (filter is_slash ys)

-- a front and the block behind it
pub slashes_more : (xs : List ℕ) (at n : ℕ) → slashes (take (at + n) xs) ≡ slashes (take at xs) + slashes (chunk at n xs)
slashes_more xs at n = ap slashes (take-add at n xs) ∙ slashes-append (take at xs) (chunk at n xs)

-- a front and what the last block has behind it
pub slashes_whole : (xs : List ℕ) (at n last : ℕ) → last ≤ at → length xs ≤ last + n → slashes (take at xs) + slashes (drop (at - last) (chunk last n xs)) ≡ slashes xs
slashes_whole xs at n last le whole =
    let back : last + (at - last) ≡ at = omega arith in
    let rest : drop (at - last) (chunk last n xs) ≡ drop at xs =
    ap (drop (at - last)) (take_all n (drop last xs) (omega (arith, length-drop last xs, whole))) ∙ drop-drop (at - last) last xs ∙ ap (λ k. drop k xs) back in
    ap (λ (ys : List ℕ). slashes (take at xs) + slashes ys) rest ∙ sym (slashes-append (take at xs) (drop at xs)) ∙ ap slashes (take-append-drop at xs)

few_cond : (t : Bool) (x n : ℕ) (ys : List ℕ) → length ys ≤ n → length (cond t (x ∷ ys) ys) ≤ n + 1
few_cond true x n ys h = omega arith
few_cond false x n ys h = omega arith

pub slashes_few : (xs : List ℕ) → slashes xs ≤ length xs
slashes_few [] = omega arith
slashes_few (x ∷ xs) = omega (arith, few_cond (is_slash x) x (length xs) (filter is_slash xs) (slashes_few xs))

pub front_few : (xs : List ℕ) (n : ℕ) → slashes (take n xs) ≤ length xs
front_few xs n =
    let parts : slashes xs ≡ slashes (take n xs) + slashes (drop n xs) = ap slashes (sym (take-append-drop n xs)) ∙ slashes-append (take n xs) (drop n xs) in
    omega (arith, parts, slashes_few xs)
