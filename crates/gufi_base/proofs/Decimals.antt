-- Digits written from the right.
use Rattle.std.proofs.Common.{◌≡◌, ℕ, zero, suc, ◌+◌, ◌-◌, ◌*◌, ◌/◌, ◌%◌, ◌^◌, ◌<◌, ◌≤◌, List, [], ◌∷◌, ◌++◌, length, take, drop, set, refl, sym, ap, ◌∙◌, arith, append_assoc}
use Rattle.std.specs.Prelude.{decimal, ℤ, pos, negsuc}
use Rattle.std.specs.Fmt.{signed_decimal}
use lib.IntN.{nat_abs}
use lib.Signed.{le_z}
use Rattle.std.proofs.Common.{false}
use Rattle.std.proofs.lemmas.Bool.{le-leb, true≢false}
use Rattle.std.proofs.lemmas.List.{drop-set, length-drop, length-set, take_all}
use Rattle.std.proofs.lemmas.Fmt.{decimal_digit, decimal_step_wide, length-decimal-le}
use Rattle.std.proofs.Math.Nat.{pow-succ'}

power_more : (k : ℕ) → 10 ^ (k + 1) ≡ 10 * 10 ^ k
power_more k = let one : k + 1 ≡ suc k = omega arith in ap (λ n. 10 ^ n) one ∙ pow-succ' 10 k

-- there is room for a further digit
pub more_room : (rest at : ℕ) → 10 ≤ rest → rest < 10 ^ (at + 1) → 0 < at
more_room rest zero ten room = absurd (omega (arith, room))
more_room rest (suc at) ten room = omega arith

pub rest_fits : (rest at : ℕ) → rest < 10 ^ (at + 1) → rest / 10 < 10 ^ at
rest_fits rest at room = let more = power_more at in omega arith

pub digits_more : (number rest at : ℕ) (buffer : List ℕ) → decimal number ≡ decimal rest ++ drop (at + 1) buffer → 10 ≤ rest → rest < 10 ^ 64 → at < length buffer
    → decimal number ≡ decimal (rest / 10) ++ drop at (set buffer at (48 + rest % 10))
digits_more number rest at buffer e ten small lt =
    e ∙ ap (λ (t : List ℕ). t ++ drop (at + 1) buffer) (decimal_step_wide rest ten small) ∙ append_assoc (decimal (rest / 10)) ((48 + rest % 10) ∷ []) (drop (at + 1) buffer)
    ∙ ap (λ (t : List ℕ). decimal (rest / 10) ++ t) (sym (drop-set buffer at (48 + rest % 10) lt))

pub digits_last : (number rest at : ℕ) (buffer : List ℕ) → decimal number ≡ decimal rest ++ drop (at + 1) buffer → rest < 10 → at < length buffer → drop at (set buffer at (48 + rest)) ≡ decimal number
digits_last number rest at buffer e few lt =
    drop-set buffer at (48 + rest) lt ∙ ap (λ (t : List ℕ). t ++ drop (at + 1) buffer) (sym (decimal_digit rest few)) ∙ sym e

-- the digits leave the first of 21 places free
pub sign_fits : (number start : ℕ) (buffer : List ℕ) → drop start buffer ≡ decimal number → number < 2 ^ 64 → length buffer ≡ 21 → 1 ≤ start
sign_fits number start buffer e small n =
    let short : length (decimal number) ≤ 20 = length-decimal-le 20 number (omega arith) (omega arith) small in
    omega (arith, ap length e, length-drop start buffer, n, short)

signed_decimal-minus : (z : ℤ) → le_z (pos 0) z ≡ false → signed_decimal z ≡ 45 ∷ decimal (nat_abs z)
signed_decimal-minus (pos n) e = absurd (true≢false (sym (le-leb 0 n (omega arith)) ∙ e))
signed_decimal-minus (negsuc n) e = refl

-- a minus before the digits of the magnitude
pub minus_put : (z read : ℤ) (number start : ℕ) (buffer : List ℕ) → read ≡ z → le_z (pos 0) read ≡ false → number ≡ nat_abs read → drop start buffer ≡ decimal number → 1 ≤ start → start < length buffer → length buffer ≡ 21
    → take (21 - (start - 1)) (drop (start - 1) (set buffer (start - 1) 45)) ≡ signed_decimal z
minus_put z read number start buffer same minus is e one within n =
    let place : start - 1 + 1 ≡ start = omega arith in
    let whole : drop (start - 1) (set buffer (start - 1) 45) ≡ signed_decimal z =
    drop-set buffer (start - 1) 45 (omega arith) ∙ ap (λ k. 45 ∷ drop k buffer) place ∙ ap (λ (t : List ℕ). 45 ∷ t) (e ∙ ap decimal is) ∙ sym (signed_decimal-minus read minus) ∙ ap signed_decimal same in
    take_all (21 - (start - 1)) (drop (start - 1) (set buffer (start - 1) 45)) (omega (arith, length-drop (start - 1) (set buffer (start - 1) 45), length-set buffer (start - 1) 45)) ∙ whole
