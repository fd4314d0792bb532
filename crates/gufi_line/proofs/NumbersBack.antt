-- Printed numbers are read again, and are plain.
use Rattle.std.proofs.Common.{◌≡◌, ℕ, suc, ◌+◌, ◌-◌, ◌^◌, ◌<◌, true, false, not, ◌&&◌, ltb, List, [], ◌∷◌, length, refl, ap, ◌∙◌, arith, ℤ, pos, negsuc, neg_ℤ}
use Rattle.std.specs.Prelude.{Some, None, option_map, decimal, int_lt, int_le}
use Rattle.std.specs.Fmt.{signed_decimal}
use Rattle.std.specs.Char.{is_digit, digit_value}
use Rattle.std.specs.List.{list_all}
use Rattle.std.specs.Str.Parse.{AllDigits, digits_value, starts_with_minus}
use Rattle.std.proofs.lemmas.Fmt.{decimal_is_IsNumeral}
use Rattle.std.proofs.lemmas.Str.Parse.{digit_from_value}
use Rattle.std.proofs.lemmas.Bool.{and_parts, and_from, or_left, lt-ltb, le-leb, ltb-true, leb-true, ne_eqb, cond-true, cond-false}
use Rattle.gufi_base.specs.Basics.{is_empty}
use Rattle.gufi_base.specs.Numbers.{is_numeral, read_below, read_i64}
use Rattle.gufi_base.specs.Rows.{fits_i64}
use Rattle.gufi_line.proofs.FieldsBack.{is_plain}

digits_pass : (ds : List ℕ) → AllDigits 10 ds → list_all (λ c. is_digit c 10) ds ≡ true
digits_pass [] h = refl
digits_pass (c ∷ cs) h = and_from _ _ (lt-ltb (digit_value c) 10 h.0) (digits_pass cs h.1)

some_bytes : (ds : List ℕ) → 0 < length ds → not (is_empty ds) ≡ true
some_bytes [] h = absurd (omega arith)
some_bytes (c ∷ cs) h = refl

pub read_below-decimal : (limit n : ℕ) → n < limit → n < 2 ^ 64 → read_below 10 limit (decimal n) ≡ Some n
read_below-decimal limit n below small =
    let d = decimal_is_IsNumeral n small in
    let worth : digits_value 10 (decimal n) < limit = omega (arith, d.1) in
    cond-true (is_numeral 10 (decimal n) && ltb (digits_value 10 (decimal n)) limit) (Some (digits_value 10 (decimal n))) None
    (and_from _ _ (and_from _ _ (some_bytes (decimal n) d.0.0) (digits_pass (decimal n) d.0.1)) (lt-ltb _ _ worth))
    ∙ ap (λ k. Some k) d.1

digit_plain : (c : ℕ) → digit_value c < 10 → is_plain c ≡ true
digit_plain c h =
    let r = digit_from_value c h in
    or_left _ _ (or_left _ _ (or_left _ _ (and_from _ _ (le-leb 48 c r.0) (le-leb c 57 r.1))))

digits_plain : (ds : List ℕ) → AllDigits 10 ds → list_all is_plain ds ≡ true
digits_plain [] h = refl
digits_plain (c ∷ cs) h = and_from _ _ (digit_plain c h.0) (digits_plain cs h.1)

pub decimal_plain : (n : ℕ) → n < 2 ^ 64 → list_all is_plain (decimal n) ≡ true
decimal_plain n small = digits_plain (decimal n) (decimal_is_IsNumeral n small).0.1

no_minus : (ds : List ℕ) → 0 < length ds → AllDigits 10 ds → starts_with_minus ds ≡ false
no_minus [] some h = absurd (omega arith)
no_minus (c ∷ cs) some h =
    let r = digit_from_value c h.0 in
    ne_eqb c 45 (λ e. omega (arith, r.0, e))

pos_bound : (n : ℕ) → fits_i64 (pos n) ≡ true → n < 2 ^ 63
pos_bound n h = ltb-true n (2 ^ 63) (and_parts (int_le (neg_ℤ (pos (2 ^ 63))) (pos n)) (int_lt (pos n) (pos (2 ^ 63))) h).1

neg_bound : (n : ℕ) → fits_i64 (negsuc n) ≡ true → n < 2 ^ 63
neg_bound n h = let le = leb-true n (2 ^ 63 - 1) (and_parts (int_le (neg_ℤ (pos (2 ^ 63))) (negsuc n)) (int_lt (negsuc n) (pos (2 ^ 63))) h).0 in omega arith

pub read_i64-signed_decimal : (z : ℤ) → fits_i64 z ≡ true → read_i64 (signed_decimal z) ≡ Some z
read_i64-signed_decimal (pos n) h =
    let below = pos_bound n h in
    let small : n < 2 ^ 64 = omega arith in
    let d = decimal_is_IsNumeral n small in
    cond-false (starts_with_minus (decimal n)) _ _ (no_minus (decimal n) d.0.0 d.0.1) ∙ ap (option_map pos) (read_below-decimal (2 ^ 63) n below small)
read_i64-signed_decimal (negsuc n) h =
    let below = neg_bound n h in
    ap (option_map (λ k. neg_ℤ (pos k))) (read_below-decimal (2 ^ 63 + 1) (suc n) (omega arith) (omega arith))

pub signed_plain : (z : ℤ) → fits_i64 z ≡ true → list_all is_plain (signed_decimal z) ≡ true
signed_plain (pos n) h = let below = pos_bound n h in decimal_plain n (omega arith)
signed_plain (negsuc n) h = let below = neg_bound n h in decimal_plain (suc n) (omega arith)
