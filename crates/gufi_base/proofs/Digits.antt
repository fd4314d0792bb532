-- Reading the digits of a number from the left.
use Rattle.std.proofs.Common.{◌≡◌, ℕ, suc, ◌+◌, ◌*◌, ◌^◌, ◌<◌, ◌≤◌, true, false, cond, eqb, List, [], ◌∷◌, ◌++◌, length, get_or, take, drop, Some, None, refl, sym, ap, ◌∙◌, arith, ⊎_elim}
use Rattle.std.specs.Prelude.{not, nat_lt}
use Rattle.std.specs.List.{list_all}
use Rattle.std.specs.Char.{is_digit, digit_value}
use Rattle.std.specs.Str.Parse.{digits_value, digits_value_after}
use Rattle.std.proofs.Math.Nat.{mul-le-mul_left, pow-le-pow_right, pow-suc}
use Rattle.std.proofs.lemmas.Bool.{lt-ltb, le-ltb, and_right, and_from, and_parts, not_from_false, cases_Bool, eqb-true, false≢true}
use Rattle.std.proofs.lemmas.List.{take-append-drop, drop_more, length-take}
use Rattle.std.proofs.lemmas.List.Folds.{list_all_more}
use Rattle.std.proofs.lemmas.Int.Digits.{digits_value_more}
use Rattle.gufi_base.specs.Basics.{is_empty, split}
use Rattle.gufi_base.specs.Numbers.{read_below, NumberBefore}
use Rattle.gufi_base.proofs.Parts.{has_no, split_first}

-- n is what the digits before the rest write
pub record Reads (radix : ℕ) (bytes : List ℕ) (n : ℕ) (rest : List ℕ) : Type 0 where
  pub worth : digits_value_after radix n rest ≡ digits_value radix bytes
  pub tested : list_all (λ c. is_digit c radix) rest ≡ list_all (λ c. is_digit c radix) bytes

too_large : (radix limit : ℕ) (bytes : List ℕ) → limit ≤ digits_value radix bytes → None ≡ read_below radix limit bytes
too_large radix limit bytes h = sym (ap (λ t. cond t (Some (digits_value radix bytes)) None) (and_right _ _ (le-ltb _ _ h)))

grows : (radix n : ℕ) (rest : List ℕ) → 1 ≤ radix → n ≤ digits_value_after radix n rest
grows radix n [] one = omega arith
grows radix n (c ∷ rest) one = omega (arith, mul-le-mul_left n one, grows radix (n * radix + digit_value c) rest one)

pub Reads-large : (radix limit : ℕ) (bytes : List ℕ) (n b d : ℕ) (rest : List ℕ) → Reads radix bytes n (b ∷ rest) → d ≡ digit_value b → 1 ≤ radix → limit ≤ n * radix + d → None ≡ read_below radix limit bytes
Reads-large radix limit bytes n b d rest h e one large =
    let most = grows radix (n * radix + digit_value b) rest one in
    too_large radix limit bytes (omega (arith, most, h.worth, e))

pub Reads-done : (radix limit : ℕ) (bytes : List ℕ) (n : ℕ) → Reads radix bytes n [] → is_empty bytes ≡ false → n < limit → Some n ≡ read_below radix limit bytes
Reads-done radix limit bytes n h some small =
    let is : digits_value radix bytes ≡ n = sym h.worth in
    let test = and_from _ _ (and_from _ _ (ap not some) (sym h.tested)) (ap (λ k. nat_lt k limit) is ∙ lt-ltb n limit small) in
    sym (ap (λ t. cond t (Some (digits_value radix bytes)) None) test ∙ ap Some is)

pub some_digits : (bytes : List ℕ) → 0 < length bytes → is_empty bytes ≡ false
some_digits [] h = absurd (omega arith)
some_digits (b ∷ bytes) h = refl

-- after i of nineteen decimal digits one more fits
pub room : (n i : ℕ) → n < 10 ^ i → i < 19 → n < 10 ^ 18
room n i small few =
    let ten : 0 < 10 = omega arith in
    let most : 10 ^ i ≤ 10 ^ 18 = (let le : i ≤ 18 = omega arith in pow-le-pow_right ten le) in omega arith

-- n is what the first so many bytes write
pub record ReadsFront (text : List ℕ) (n at : ℕ) : Type 0 where
  pub worth : n ≡ digits_value 10 (take at text)
  pub tested : list_all (λ c. is_digit c 10) (take at text) ≡ true
  pub small : n < 10 ^ at

more_power : (at : ℕ) → 10 ^ (at + 1) ≡ 10 ^ at * 10
more_power at = let one : at + 1 ≡ suc at = omega arith in ap (λ k. 10 ^ k) one ∙ pow-suc 10 at

more_small : (n power digit : ℕ) → n < power → digit < 10 → n * 10 + digit < power * 10
more_small n power digit h d = omega arith

pub ReadsFront-more : (text : List ℕ) (n at b digit : ℕ) → at < length text → b ≡ get_or text at 0 → ReadsFront text n at → is_digit b 10 ≡ true → digit ≡ digit_value b → digit < 10 → ReadsFront text (n * 10 + digit) (at + 1)
ReadsFront-more text n at b digit within here h test d small =
    record {
      worth = omega (arith, h.worth, digits_value_more 10 text at within, d, ap digit_value here);
      tested = list_all_more (λ c. is_digit c 10) text at 0 within ∙ and_from _ _ h.tested (ap (λ c. is_digit c 10) (sym here) ∙ test);
      small = let power : 10 ^ (at + 1) ≡ 10 ^ at * 10 = more_power at in omega (arith, power, more_small n (10 ^ at) digit h.small small);
    }

digits_have_no : (s : ℕ) (part : List ℕ) → is_digit s 10 ≡ false → list_all (λ c. is_digit c 10) part ≡ true → has_no s part ≡ true
digits_have_no s [] other h = refl
digits_have_no s (b ∷ part) other h =
    let both = and_parts _ _ h in
    let apart : eqb b s ≡ false =
    ⊎_elim (λ (t : eqb b s ≡ true). absurd (false≢true (sym other ∙ ap (λ c. is_digit c 10) (sym (eqb-true b s t)) ∙ both.0))) (λ f. f) (cases_Bool (eqb b s)) in
    and_from _ _ (not_from_false _ apart) (digits_have_no s part other both.1)

cut_at : (text : List ℕ) (at : ℕ) → at < length text → text ≡ take at text ++ get_or text at 0 ∷ drop (at + 1) text
cut_at text at lt = sym (take-append-drop at text) ∙ ap (λ (t : List ℕ). take at text ++ t) (drop_more text at 0 lt)

pub ReadsFront-done : (s : ℕ) (text : List ℕ) (n at b : ℕ) → at < 19 → at < length text → b ≡ get_or text at 0 → ReadsFront text n at → is_digit b 10 ≡ false → b ≡ s → 0 < at → NumberBefore s text n at
ReadsFront-done s text n at b low within is h other end some =
    let here : get_or text at 0 ≡ s = sym is ∙ end in
    let power : 10 ^ at ≤ 10 ^ 18 = (let ten : 0 < 10 = omega arith in let le : at ≤ 18 = omega arith in pow-le-pow_right ten le) in
    record {
      numeral = and_from _ _ (not_from_false _ (some_digits (take at text) (omega (arith, length-take at text)))) h.tested;
      value = h.worth;
      small = omega (arith, h.small, power);
      first = ap (split s) (cut_at text at within ∙ ap (λ k. take at text ++ k ∷ drop (at + 1) text) here) ∙ split_first s (take at text) (drop (at + 1) text) (digits_have_no s (take at text) (ap (λ c. is_digit c 10) (sym end) ∙ other) h.tested);
      within = within;
    }
