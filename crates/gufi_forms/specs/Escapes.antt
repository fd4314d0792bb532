-- How a text is escaped, and how that is read back.
use Rattle.std.specs.Prelude.{ℕ, ◌+◌, ◌*◌, ◌/◌, ◌%◌, ◌==◌, ◌&&◌, nat_le, Bool, List, [], ◌∷◌, Option, Some, None, option_map, option_and_then, if◌then◌else◌}
use Rattle.std.specs.Char.{is_digit, digit_value}
use Rattle.std.specs.List.{flat_map}

-- printable ASCII, with the space
abbrev pub is_printable : ℕ → Bool
is_printable b = nat_le 32 b && nat_le b 126

abbrev pub octal_digit : ℕ → ℕ
octal_digit n = 48 + n % 8

-- a tab, a newline and a backslash have letters of their own
abbrev pub escaped_byte : ℕ → List ℕ
escaped_byte b =
    if b == 9 then 92 ∷ 116 ∷ []
    else if b == 10 then 92 ∷ 110 ∷ []
    else if b == 92 then 92 ∷ 92 ∷ []
    else if is_printable b then b ∷ []
    else 92 ∷ octal_digit (b / 64) ∷ octal_digit (b / 8) ∷ octal_digit b ∷ []

abbrev pub escaped : List ℕ → List ℕ
escaped bytes = flat_map escaped_byte bytes

-- ---- reading

-- what the letter behind a backslash stands for
abbrev pub letter_value : ℕ → Option ℕ
letter_value c = if c == 116 then Some 9 else if c == 110 then Some 10 else if c == 92 then Some 92 else None

-- where a reader of escapes stands: outside of one, behind its backslash, or behind a first or a second digit, with what they are worth
pub data Within : Type 0 where
  plain : Within
  behind_backslash : Within
  behind_first : ℕ → Within
  behind_second : ℕ → Within

abbrev pub behind_byte : ℕ → Option (List ℕ) → Option (List ℕ)
behind_byte b rest = option_map (λ bytes. b ∷ bytes) rest

-- the bytes that the rest of a text stands for
unfoldable pub unescape : Within → List ℕ → Option (List ℕ)
unescape plain [] = Some []
unescape plain (c ∷ rest) = if c == 92 then unescape behind_backslash rest else behind_byte c (unescape plain rest)
unescape behind_backslash [] = None
unescape behind_backslash (c ∷ rest) =
    if is_digit c 8 then unescape (behind_first (digit_value c)) rest else option_and_then (λ b. behind_byte b (unescape plain rest)) (letter_value c)
unescape (behind_first n) [] = None
unescape (behind_first n) (c ∷ rest) = if is_digit c 8 then unescape (behind_second (8 * n + digit_value c)) rest else None
unescape (behind_second n) [] = None
unescape (behind_second n) (c ∷ rest) = if is_digit c 8 then behind_byte (8 * n + digit_value c) (unescape plain rest) else None

abbrev pub unescaped : List ℕ → Option (List ℕ)
unescaped text = unescape plain text
