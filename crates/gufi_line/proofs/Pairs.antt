-- Pairs of digits, by their values.
use Rattle.std.proofs.Common.{◌≡◌, ℕ, ◌+◌, ◌-◌, ◌*◌, ◌/◌, ◌%◌, ◌^◌, ◌<◌, ◌≤◌, Bool, true, false, eqb, List, [], ◌∷◌, ◌++◌, length, get_or, inl, inr, refl, sym, ap, ◌∙◌, subst, arith}
use Rattle.std.specs.Prelude.{if◌then◌else◌}
use Rattle.std.specs.Char.{is_digit, digit_value}
use Rattle.std.proofs.Math.Nat.{pow-le-pow_right}
use Rattle.std.proofs.lemmas.Bool.{cases_order, ltb-true, eqb-true}
use Rattle.std.proofs.lemmas.List.{length-append, get_or_push, get_or_append_left}
use Rattle.gufi_base.specs.Numbers.{NumberBefore}
use Rattle.gufi_base.proofs.Digits.{ReadsFront, ReadsFront-more, ReadsFront-done}
use Rattle.gufi_line.specs.Pairs.{pair_value, AreFirstPairs}

-- one pair more
pub pair_pushed : (separator : ℕ) (values : List ℕ) (count value : ℕ) → AreFirstPairs separator values count → value ≡ pair_value separator (count % 256) (count / 256) → AreFirstPairs separator (values ++ value ∷ []) (count + 1)
pair_pushed separator values count value old is = record {
  len = length-append values (value ∷ []) ∙ ap (λ n. n + 1) old.len;
  each = λ place within. elim (cases_order place count) [
    | inl e ↦ get_or_push values value 0 place (old.len ∙ sym e) ∙ is ∙ ap (λ k. pair_value separator (k % 256) (k / 256)) (sym e)
    | inr (inl l) ↦ get_or_append_left values (value ∷ []) 0 place (let e = old.len in omega arith) ∙ old.each place l
    | inr (inr g) ↦ absurd (omega arith)
  ];
}

digit_below : (c : ℕ) → is_digit c 10 ≡ true → digit_value c < 10
digit_below c h = ltb-true (digit_value c) 10 h

-- what a value tells of its two bytes
record Tells (s a b v : ℕ) : Type 0 where
  two : v < 100 → (is_digit a 10 ≡ true) × (is_digit b 10 ≡ true) × (v ≡ digit_value a * 10 + digit_value b)
  one : 100 ≤ v → v < 254 → (is_digit a 10 ≡ true) × (is_digit b 10 ≡ false) × (b ≡ s) × (v ≡ 100 + digit_value a)
  none : v ≡ 254 → (is_digit a 10 ≡ false) × (a ≡ s)

tells : (s a b v : ℕ) → v ≡ pair_value s a b → Tells s a b v
tells s a b v is = by (is_digit a 10) (is_digit b 10) (eqb b s) (eqb a s) refl refl refl refl is
  where
    by : (x y z w : Bool) → is_digit a 10 ≡ x → is_digit b 10 ≡ y → eqb b s ≡ z → eqb a s ≡ w
        → v ≡ (if x then (if y then digit_value a * 10 + digit_value b else (if z then 100 + digit_value a else 255)) else (if w then 254 else 255)) → Tells s a b v
    by true true z w e f g h is =
        let small : v < 100 = omega (arith, digit_below a e, digit_below b f) in
        record { two = λ _. (e, f, is); one = λ low _. absurd (omega arith); none = λ v. absurd (omega arith) }
    by true false true w e f g h is =
        let small : v < 110 = omega (arith, digit_below a e) in
        record { two = λ low. absurd (omega arith); one = λ _ _. (e, f, eqb-true b s g, is); none = λ v. absurd (omega arith) }
    by true false false w e f g h is = record { two = λ low. absurd (omega arith); one = λ _ low. absurd (omega arith); none = λ v. absurd (omega arith) }
    by false y z true e f g h is = record { two = λ low. absurd (omega arith); one = λ _ low. absurd (omega arith); none = λ _. (e, eqb-true a s h) }
    by false y z false e f g h is = record { two = λ low. absurd (omega arith); one = λ _ low. absurd (omega arith); none = λ v. absurd (omega arith) }

-- after fewer than fifteen digits two more fit
pub near : (n at : ℕ) → n < 10 ^ at → at ≤ 14 → n < 10 ^ 14
near n at small few =
    let ten : 0 < 10 = omega arith in
    let most : 10 ^ at ≤ 10 ^ 14 = pow-le-pow_right ten few in omega arith

-- two digits more
pub pair_more : (s : ℕ) (text : List ℕ) (n at v : ℕ) → at + 1 < length text → ReadsFront text n at → v ≡ pair_value s (get_or text at 0) (get_or text (at + 1) 0) → v < 100 → ReadsFront text (n * 100 + v) (at + 2)
pair_more s text n at v within front is small =
    let a = get_or text at 0 in
    let b = get_or text (at + 1) 0 in
    let told : Tells s a b v = tells s a b v is in
    let digits = told.two small in
    let one = ReadsFront-more text n at a (digit_value a) (omega arith) refl front digits.0 refl (digit_below a digits.0) in
    let two = ReadsFront-more text (n * 10 + digit_value a) (at + 1) b (digit_value b) within refl one digits.1 refl (digit_below b digits.1) in
    let number : (n * 10 + digit_value a) * 10 + digit_value b ≡ n * 100 + v = omega (arith, digits.2) in
    let place : at + 1 + 1 ≡ at + 2 = omega arith in
    subst (λ k. ReadsFront text (n * 100 + v) k) place (subst (λ m. ReadsFront text m (at + 1 + 1)) number two)

-- before any digit
pub no_digits : (text : List ℕ) → ReadsFront text 0 0
no_digits text = record { worth = refl; tested = refl; small = omega arith }

-- the first two digits
pub first_pair : (s : ℕ) (text : List ℕ) (n v : ℕ) → n ≡ v → 1 < length text → v ≡ pair_value s (get_or text 0 0) (get_or text 1 0) → v < 100 → ReadsFront text n 2
first_pair s text n v e within is small = let same : 0 * 100 + v ≡ n = omega (arith, e) in subst (λ m. ReadsFront text m 2) same (pair_more s text 0 0 v within (no_digits text) is small)

-- one digit more, and the separator
pub one_more : (s : ℕ) (text : List ℕ) (n at v : ℕ) → at + 1 < length text → at + 1 < 19 → ReadsFront text n at → v ≡ pair_value s (get_or text at 0) (get_or text (at + 1) 0) → 100 ≤ v → v < 254
    → NumberBefore s text (n * 10 + (v - 100)) (at + 1)
one_more s text n at v within few front is large small =
    let a = get_or text at 0 in
    let b = get_or text (at + 1) 0 in
    let told : Tells s a b v = tells s a b v is in
    let digits = told.one large small in
    let digit : digit_value a ≡ v - 100 = omega (arith, digits.3) in
    let one = ReadsFront-more text n at a (digit_value a) (omega arith) refl front digits.0 refl (digit_below a digits.0) in
    ReadsFront-done s text (n * 10 + (v - 100)) (at + 1) b few within refl (subst (λ d. ReadsFront text (n * 10 + d) (at + 1)) digit one) digits.1 digits.2 (omega arith)

-- the separator
pub no_more : (s : ℕ) (text : List ℕ) (n at v : ℕ) → at + 1 < length text → at + 1 < 19 → ReadsFront text n at → v ≡ pair_value s (get_or text at 0) (get_or text (at + 1) 0) → v ≡ 254 → 0 < at → NumberBefore s text n at
no_more s text n at v within few front is none some =
    let told : Tells s (get_or text at 0) (get_or text (at + 1) 0) v = tells s (get_or text at 0) (get_or text (at + 1) 0) v is in
    let end = told.none none in
    ReadsFront-done s text n at (get_or text at 0) (omega arith) (omega arith) refl front end.0 end.1 some
