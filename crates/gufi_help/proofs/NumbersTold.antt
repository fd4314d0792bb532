-- The number of a word in a note is found, and told as the caller counts.
use Rattle.std.proofs.Common.{◌≡◌, ℕ, ◌+◌, ◌^◌, ◌<◌, ◌≤◌, ◌==◌, Bool, true, false, cond, not, List, [], ◌∷◌, ◌++◌, length, refl, ap, subst, arith}
use Rattle.std.specs.Prelude.{Option, Some, None, codes, decimal, nat_lt, position}
use Rattle.std.specs.Char.{is_digit, digit_value}
use Rattle.std.specs.List.{list_all}
use Rattle.std.specs.Str.Parse.{AllDigits, digits_value}
use Rattle.std.proofs.lemmas.Bool.{and_parts, and_from, lt-ltb, ne_eqb}
use Rattle.std.proofs.lemmas.Bool.Decides.{nat_tests}
use Rattle.std.proofs.lemmas.Fmt.{decimal_is_IsNumeral}
use Rattle.std.proofs.lemmas.List.Sums.{prefix_len-le-length}
use Rattle.std.proofs.Math.Seq.{take-append_seam, drop-append_seam}
use Rattle.gufi_base.specs.Basics.{is_empty}
use Rattle.gufi_base.specs.Numbers.{read_u32}
use Rattle.gufi_help.specs.declared.inserted.Inserted.{Inserted}
use Rattle.gufi_help.specs.Inserted.{word_for_caller, blank_at, numbered_behind, numbered, renumbered}

-- ---- the first blank

pub blank_within : (text : List ℕ) → blank_at text ≤ length text
blank_within text = prefix_len-le-length (λ b. not (b == 32)) text

found_at : (is_there : Bool) (n at : ℕ) → Some at ≡ cond is_there (Some n) None → at ≡ n
found_at true n at e = cc
found_at false n at e = cc

pub blank_found : (text : List ℕ) (at : ℕ) → Some at ≡ position (λ b. b == 32) text → at ≡ blank_at text
blank_found text at e = found_at (nat_lt (blank_at text) (length text)) (blank_at text) at e

not_found : (is_there : Bool) (n m : ℕ) → nat_lt n m ≡ is_there → n ≤ m → let none : Option ℕ = None in none ≡ cond is_there (Some n) None → m ≡ n
not_found true n m test within e = cc
not_found false n m test within e = grind (arith, nat_tests)

pub blank_missing : (text : List ℕ) → let none : Option ℕ = None in none ≡ position (λ b. b == 32) text → length text ≡ blank_at text
blank_missing text e = not_found (nat_lt (blank_at text) (length text)) (blank_at text) (length text) refl (blank_within text) e

-- ---- the number before it

digits_pass : (ds : List ℕ) → AllDigits 10 ds → list_all (λ c. is_digit c 10) ds ≡ true
digits_pass [] h = refl
digits_pass (c ∷ cs) h = and_from _ _ (lt-ltb (digit_value c) 10 h.0) (digits_pass cs h.1)

some_digits : (ds : List ℕ) → 0 < length ds → is_empty ds ≡ false
some_digits [] h = absurd (omega arith)
some_digits (c ∷ cs) h = refl

not_blank : (c : ℕ) → is_digit c 10 ≡ true → (c == 32) ≡ false
not_blank c h = ne_eqb c 32 (λ e. let bad : is_digit 32 10 ≡ true = subst (λ (v : ℕ). is_digit v 10 ≡ true) e h in cc)

blank_behind : (ds text : List ℕ) → list_all (λ c. is_digit c 10) ds ≡ true → blank_at (ds ++ (32 ∷ text)) ≡ length ds
blank_behind [] text h = refl
blank_behind (c ∷ cs) text h =
    let parts = and_parts (is_digit c 10) (list_all (λ c. is_digit c 10) cs) h in
    let more : blank_at (c ∷ (cs ++ (32 ∷ text))) ≡ 1 + blank_at (cs ++ (32 ∷ text)) = ap (λ b. cond (not b) (1 + blank_at (cs ++ (32 ∷ text))) 0) (not_blank c parts.0) in
    omega (arith, more, blank_behind cs text parts.1)

number_back : (k : ℕ) → k < 2 ^ 32 → read_u32 (decimal k) ≡ Some k
number_back k small =
    let d = decimal_is_IsNumeral k (omega arith) in
    let worth : digits_value 10 (decimal k) < 2 ^ 32 = omega (arith, d.1) in
    rw (some_digits (decimal k) d.0.0, digits_pass (decimal k) d.0.1, lt-ltb (digits_value 10 (decimal k)) (2 ^ 32) worth) (ap (λ (n : ℕ). Some n) d.1)

number_found : (k : ℕ) (text : List ℕ) → k < 2 ^ 32 → numbered_behind (decimal k ++ (32 ∷ text)) ≡ Some (k, 32 ∷ text)
number_found k text small =
    let d = decimal_is_IsNumeral k (omega arith) in
    rw (blank_behind (decimal k) text (digits_pass (decimal k) d.0.1), take-append_seam (decimal k) (32 ∷ text), drop-append_seam (decimal k) (32 ∷ text), number_back k small) refl

pub note_renumbered : (inserted : Inserted) (k : ℕ) (text : List ℕ) → k < 2 ^ 32
    → renumbered inserted (codes "gufi: word " ++ (decimal k ++ (32 ∷ text))) ≡ codes "gufi: " ++ (word_for_caller inserted k ++ (32 ∷ text))
unfolding numbered
note_renumbered inserted k text small = rw (number_found k text small) refl
