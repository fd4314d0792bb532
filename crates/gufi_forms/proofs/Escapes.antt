-- What is escaped reads back.
use Rattle.std.proofs.Common.{◌≡◌, inl, inr, ℕ, ◌+◌, ◌*◌, ◌<◌, ◌≤◌, true, false, nat_le, List, [], ◌∷◌, ◌++◌, Some, not, IsAscii, IsUtf8, refl, sym, ap, ◌∙◌, arith, rules}
use Rattle.std.specs.Prelude.{◌/◌, ◌%◌, ◌==◌, nat_lt}
use Rattle.std.specs.Char.{is_digit, digit_value}
use Rattle.std.proofs.lemmas.Bool.{and_parts, and_from, cases_Bool, eqb-true, ne_eqb, not-true, leb-true, le-leb}
use Rattle.std.proofs.lemmas.Str.{digit_value_digit, IsUtf8-from_ascii}
use Rattle.std.proofs.lemmas.Str.Ascii.{IsAscii-nil, IsAscii-cons}
use Rattle.std.specs.List.{list_all}
use Rattle.std.proofs.lemmas.List.Folds.{list_all-append}
use Rattle.gufi_base.specs.Rows.{are_bytes}
use Rattle.gufi_base.proofs.Parts.{has_no}
use Rattle.gufi_forms.specs.Escapes.{octal_digit, is_printable, escaped_byte, escaped, plain, behind_backslash, behind_first, behind_second, behind_byte, letter_value, unescape, unescaped}

digit_back : (n : ℕ) → digit_value (octal_digit n) ≡ n % 8
digit_back n = let worth = digit_value_digit (octal_digit n) (omega arith, omega arith) in omega (arith, worth)

digit_is : (n : ℕ) → is_digit (octal_digit n) 8 ≡ true
digit_is n = let worth : digit_value (octal_digit n) < 8 = rw (digit_back n) (omega arith) in search (rules, worth)

first_read : (c : ℕ) (rest : List ℕ) → is_digit c 8 ≡ true → unescape behind_backslash (c ∷ rest) ≡ unescape (behind_first (digit_value c)) rest
unfolding unescape
first_read c rest is = rw (is) refl

second_read : (n c : ℕ) (rest : List ℕ) → is_digit c 8 ≡ true → unescape (behind_first n) (c ∷ rest) ≡ unescape (behind_second (8 * n + digit_value c)) rest
unfolding unescape
second_read n c rest is = rw (is) refl

third_read : (n c : ℕ) (rest : List ℕ) → is_digit c 8 ≡ true → unescape (behind_second n) (c ∷ rest) ≡ behind_byte (8 * n + digit_value c) (unescape plain rest)
unfolding unescape
third_read n c rest is = rw (is) refl

-- three digits are worth the byte
octal_worth : (b : ℕ) → b < 256 → 8 * (8 * digit_value (octal_digit (b / 64)) + digit_value (octal_digit (b / 8))) + digit_value (octal_digit b) ≡ b
octal_worth b small = omega (arith, digit_back (b / 64), digit_back (b / 8), digit_back b)

octal_read : (b : ℕ) (rest : List ℕ) → b < 256 → unescape behind_backslash (octal_digit (b / 64) ∷ octal_digit (b / 8) ∷ octal_digit b ∷ rest) ≡ behind_byte b (unescape plain rest)
octal_read b rest small =
    first_read (octal_digit (b / 64)) (octal_digit (b / 8) ∷ octal_digit b ∷ rest) (digit_is (b / 64))
    ∙ second_read (digit_value (octal_digit (b / 64))) (octal_digit (b / 8)) (octal_digit b ∷ rest) (digit_is (b / 8))
    ∙ third_read (8 * digit_value (octal_digit (b / 64)) + digit_value (octal_digit (b / 8))) (octal_digit b) rest (digit_is b)
    ∙ ap (λ (n : ℕ). behind_byte n (unescape plain rest)) (octal_worth b small)

plain_read : (c : ℕ) (rest : List ℕ) → (c == 92) ≡ false → unescape plain (c ∷ rest) ≡ behind_byte c (unescape plain rest)
unfolding unescape
plain_read c rest other = rw other refl

letter_read : (letter b : ℕ) (rest : List ℕ) → is_digit letter 8 ≡ false → letter_value letter ≡ Some b → unescape behind_backslash (letter ∷ rest) ≡ behind_byte b (unescape plain rest)
unfolding unescape
letter_read letter b rest other is = rw (other, is) refl

backslash_read : (rest : List ℕ) → unescape plain (92 ∷ rest) ≡ unescape behind_backslash rest
unfolding unescape
backslash_read rest = refl

pub byte_read : (b : ℕ) (rest : List ℕ) → b < 256 → unescape plain (escaped_byte b ++ rest) ≡ behind_byte b (unescape plain rest)
byte_read b rest small =
    elim (cases_Bool (b == 9)) [
      | inl tab ↦ rw tab (backslash_read (116 ∷ rest) ∙ letter_read 116 9 rest refl refl ∙ ap (λ (n : ℕ). behind_byte n (unescape plain rest)) (sym (eqb-true b 9 tab)))
      | inr no_tab ↦ rw no_tab (elim (cases_Bool (b == 10)) [
        | inl newline ↦ rw newline (backslash_read (110 ∷ rest) ∙ letter_read 110 10 rest refl refl ∙ ap (λ (n : ℕ). behind_byte n (unescape plain rest)) (sym (eqb-true b 10 newline)))
        | inr no_newline ↦ rw no_newline (elim (cases_Bool (b == 92)) [
          | inl backslash ↦ rw backslash (backslash_read (92 ∷ rest) ∙ letter_read 92 92 rest refl refl ∙ ap (λ (n : ℕ). behind_byte n (unescape plain rest)) (sym (eqb-true b 92 backslash)))
          | inr other ↦ rw other (elim (cases_Bool (is_printable b)) [
            | inl printed ↦ rw printed (plain_read b rest other)
            | inr hidden ↦ rw hidden (backslash_read (octal_digit (b / 64) ∷ octal_digit (b / 8) ∷ octal_digit b ∷ rest) ∙ octal_read b rest small)
          ])
        ])
      ])
    ]

pub reads_back : (bytes : List ℕ) → are_bytes bytes ≡ true → unescaped (escaped bytes) ≡ Some bytes
unfolding unescape
reads_back [] h = refl
reads_back (b ∷ bytes) h =
    let both = and_parts (nat_lt b 256) (are_bytes bytes) h in
    byte_read b (escaped bytes) (search (rules, both.0)) ∙ ap (behind_byte b) (reads_back bytes both.1)

-- bytes without a backslash stand for themselves
pub plain_back : (bytes : List ℕ) → has_no 92 bytes ≡ true → unescaped bytes ≡ Some bytes
unfolding unescape
plain_back [] h = refl
plain_back (b ∷ bytes) h =
    let both = and_parts (not (b == 92)) (has_no 92 bytes) h in
    plain_read b bytes (not-true _ both.0) ∙ ap (behind_byte b) (plain_back bytes both.1)

-- ---- what is written is printable

printable : (c : ℕ) → 32 ≤ c → c ≤ 126 → is_printable c ≡ true
printable c low high = and_from _ _ (le-leb 32 c low) (le-leb c 126 high)

octal_printable : (n : ℕ) → is_printable (octal_digit n) ≡ true
octal_printable n = printable (octal_digit n) (omega arith) (omega arith)

byte_printable : (b : ℕ) → list_all is_printable (escaped_byte b) ≡ true
byte_printable b =
    elim (cases_Bool (b == 9)) [
      | inl tab ↦ rw tab refl
      | inr no_tab ↦ rw no_tab (elim (cases_Bool (b == 10)) [
        | inl newline ↦ rw newline refl
        | inr no_newline ↦ rw no_newline (elim (cases_Bool (b == 92)) [
          | inl backslash ↦ rw backslash refl
          | inr other ↦ rw other (elim (cases_Bool (is_printable b)) [
            | inl printed ↦ rw printed (and_from _ _ printed refl)
            | inr hidden ↦ rw hidden (and_from _ _ (octal_printable (b / 64)) (and_from _ _ (octal_printable (b / 8)) (and_from _ _ (octal_printable b) refl)))
          ])
        ])
      ])
    ]

escaped_printable : (bytes : List ℕ) → list_all is_printable (escaped bytes) ≡ true
escaped_printable [] = refl
escaped_printable (b ∷ bytes) = list_all-append is_printable (escaped_byte b) (escaped bytes) ∙ and_from _ _ (byte_printable b) (escaped_printable bytes)

printable_has_no : (s : ℕ) → s < 32 → (text : List ℕ) → list_all is_printable text ≡ true → has_no s text ≡ true
printable_has_no s control [] h = refl
printable_has_no s control (c ∷ text) h =
    let both = and_parts (is_printable c) (list_all is_printable text) h in
    let low : 32 ≤ c = leb-true 32 c (and_parts (nat_le 32 c) (nat_le c 126) both.0).0 in
    and_from (not (c == s)) (has_no s text) (rw (ne_eqb c s (λ e. omega (arith, e, low))) refl) (printable_has_no s control text both.1)

printable_ascii : (text : List ℕ) → list_all is_printable text ≡ true → IsAscii text
printable_ascii [] h = IsAscii-nil
printable_ascii (c ∷ text) h =
    let both = and_parts (is_printable c) (list_all is_printable text) h in
    let high : c ≤ 126 = leb-true c 126 (and_parts (nat_le 32 c) (nat_le c 126) both.0).1 in
    IsAscii-cons c text (omega (arith, high)) (printable_ascii text both.1)

pub escaped_has_no : (s : ℕ) → s < 32 → (bytes : List ℕ) → has_no s (escaped bytes) ≡ true
escaped_has_no s control bytes = printable_has_no s control (escaped bytes) (escaped_printable bytes)

pub escaped_is_utf8 : (bytes : List ℕ) → IsUtf8 (escaped bytes)
escaped_is_utf8 bytes = IsUtf8-from_ascii (escaped bytes) (printable_ascii (escaped bytes) (escaped_printable bytes))
