-- Numbers in decimal: what they hold, and that they read back.
use Rattle.std.proofs.Common.{◌≡◌, ◌≢◌, ℕ, ℤ, pos, negsuc, suc, ◌^◌, ◌<◌, ◌≤◌, true, ◌==◌, not, List, [], ◌∷◌, length, decimal, refl, ap, ◌∙◌, arith}
use Rattle.std.specs.Prelude.{neg_ℤ}
use Rattle.std.specs.Fmt.{signed_decimal}
use Rattle.std.specs.Str.Parse.{AllDigits, digits_value, signed_digits_value}
use Rattle.std.proofs.lemmas.Bool.{ne_eqb, and_from}
use Rattle.std.proofs.lemmas.Fmt.{decimal_is_IsNumeral}
use Rattle.std.proofs.lemmas.Str.Parse.{digit_at}
use Rattle.json.specs.Print.{IsNumber}
use Rattle.json.proofs.Printed.Decimals.{IsNumber-decimal, IsNumber-signed_decimal}
use Rattle.gufi_base.proofs.Parts.{has_no}

-- of 64 bits, without a sign or below 0
abbrev pub IsSmall : ℤ → Type 0
IsSmall (pos n) = n < 2 ^ 64
IsSmall (negsuc n) = n < 2 ^ 63

-- no sign or digit
abbrev pub IsNoDigit : ℕ → Type 0
IsNoDigit s = (c : ℕ) → 45 ≤ c → c ≤ 57 → c ≢ s

digits_have_no : (s : ℕ) → IsNoDigit s → (ds : List ℕ) → AllDigits 10 ds → has_no s ds ≡ true
digits_have_no s other [] all = refl
digits_have_no s other (d ∷ ds) all =
    let range = digit_at (d ∷ ds) 0 all (omega arith) in
    and_from (not (d == s)) (has_no s ds) (rw (ne_eqb d s (other d (omega (arith, range)) (omega (arith, range)))) refl) (digits_have_no s other ds all.1)

pub number_has_no : (s : ℕ) → IsNoDigit s → (z : ℤ) → IsSmall z → has_no s (signed_decimal z) ≡ true
number_has_no s other (pos n) small = digits_have_no s other (decimal n) (decimal_is_IsNumeral n small).0.1
number_has_no s other (negsuc n) small =
    and_from (not (45 == s)) (has_no s (decimal (suc n))) (rw (ne_eqb 45 s (other 45 (omega arith) (omega arith))) refl)
    (digits_have_no s other (decimal (suc n)) (decimal_is_IsNumeral (suc n) (omega arith)).0.1)

pub number_is_number : (z : ℤ) → IsSmall z → IsNumber (signed_decimal z)
number_is_number (pos n) small = IsNumber-decimal n small
number_is_number (negsuc n) small = IsNumber-signed_decimal (negsuc n) small

-- digits without a sign before them
unsigned_back : (ds : List ℕ) → 0 < length ds → AllDigits 10 ds → signed_digits_value 10 ds ≡ pos (digits_value 10 ds)
unsigned_back [] some all = absurd (omega arith)
unsigned_back (d ∷ ds) some all =
    let range = digit_at (d ∷ ds) 0 all (omega arith) in
    rw (ne_eqb d 45 (λ e. omega (arith, range)), ne_eqb d 43 (λ e. omega (arith, range))) refl

pub number_back : (z : ℤ) → IsSmall z → signed_digits_value 10 (signed_decimal z) ≡ z
number_back (pos n) small =
    let is = decimal_is_IsNumeral n small in
    unsigned_back (decimal n) is.0.0 is.0.1 ∙ ap pos is.1
number_back (negsuc n) small = ap (λ (m : ℕ). neg_ℤ (pos m)) (decimal_is_IsNumeral (suc n) (omega arith)).1
