-- The tokens of a SELECT, each with its offset.
use Rattle.std.specs.Prelude.{ℕ, zero, suc, ◌+◌, ◌-◌, Bool, true, false, ◌==◌, ◌&&◌, ◌||◌, nat_le, List, [], ◌∷◌, ◌++◌, length, Option, Some, None, if◌then◌else◌}
use Rattle.std.specs.List.{take_while}
use Rattle.gufi_base.specs.Numbers.{read_u64}
use Rattle.gufi_select.specs.declared.operator.Operator.TheVariants.{Equal, Unequal, Below, AtMost, Above, AtLeast}
use Rattle.gufi_select.specs.declared.token.Sign.{Sign}
use Rattle.gufi_select.specs.declared.token.Sign.TheVariants as signs
use Rattle.gufi_select.specs.declared.token.Token.{Token}
use Rattle.gufi_select.specs.declared.token.Token.TheVariants as variants
use Rattle.gufi_select.specs.declared.token.Front.{Front}
use Rattle.gufi_select.specs.declared.token.Quoted.{Quoted}
use Rattle.gufi_select.specs.Names.{word_of}

pub record PlacedToken : Type 0 where
  pub offset : ℕ
  pub token : Token

abbrev pub is_blank : ℕ → Bool
is_blank b = b == 32 || b == 9 || b == 10

abbrev pub is_digit : ℕ → Bool
is_digit b = nat_le 48 b && nat_le b 57

abbrev pub is_word_start : ℕ → Bool
is_word_start b = (nat_le 65 b && nat_le b 90) || (nat_le 97 b && nat_le b 122) || b == 95

abbrev pub is_word_byte : ℕ → Bool
is_word_byte b = is_word_start b || is_digit b

-- a text behind its opening quote: its bytes, how many bytes of the text were read, and whether it closes;
-- the flag says that a quote stands before, which closes unless a second one follows
abbrev pub with_bytes : List ℕ → Quoted → Quoted
with_bytes front q = record { bytes = front ++ q.bytes; count = q.count + 1; closed = q.closed }

abbrev pub quoted : Bool → List ℕ → Quoted
quoted after [] = record { bytes = []; count = 0; closed = after }
quoted false (b ∷ rest) = if b == 39 then with_bytes [] (quoted true rest) else with_bytes (b ∷ []) (quoted false rest)
quoted true (b ∷ rest) = if b == 39 then with_bytes (39 ∷ []) (quoted false rest) else record { bytes = []; count = 0; closed = true }

abbrev pub text_at : List ℕ → Front
text_at rest = let q = quoted false rest in record { token = (if q.closed then variants.Text q.bytes else variants.OpenText); size = q.count + 1 }

-- signs of two bytes, and of one
abbrev pub pair_sign : ℕ → ℕ → Option Sign
pair_sign b c =
    if b == 60 && c == 62 then Some (signs.Compare Unequal)
    else if b == 60 && c == 61 then Some (signs.Compare AtMost)
    else if b == 33 && c == 61 then Some (signs.Compare Unequal)
    else if b == 62 && c == 61 then Some (signs.Compare AtLeast)
    else None

abbrev pub single_sign : ℕ → Token
single_sign b =
    if b == 44 then variants.Sign signs.Comma
    else if b == 40 then variants.Sign signs.Open
    else if b == 41 then variants.Sign signs.Close
    else if b == 42 then variants.Sign signs.Star
    else if b == 59 then variants.Sign signs.Semicolon
    else if b == 45 then variants.Sign signs.Minus
    else if b == 61 then variants.Sign (signs.Compare Equal)
    else if b == 60 then variants.Sign (signs.Compare Below)
    else if b == 62 then variants.Sign (signs.Compare Above)
    else variants.Stray

-- the longest sign first
abbrev pub longest_sign : ℕ → Option Sign → Front
longest_sign b (Some pair) = record { token = variants.Sign pair; size = 2 }
longest_sign b None = record { token = single_sign b; size = 1 }

abbrev pub sign_at : ℕ → List ℕ → Front
sign_at b [] = longest_sign b None
sign_at b (c ∷ rest) = longest_sign b (pair_sign b c)

-- the token that a byte begins, which is the first of the bytes; the others follow it
abbrev pub front_token : ℕ → List ℕ → List ℕ → Front
front_token b rest bytes =
    if is_word_start b then (let letters = take_while is_word_byte bytes in record { token = variants.Word (word_of letters); size = length letters })
    else if is_digit b then (let digits = take_while is_digit bytes in record { token = variants.Digits (read_u64 digits); size = length digits })
    else if b == 39 then text_at rest
    else sign_at b rest

-- The tokens from an offset on; the first number says how many bytes belong to the token before.
abbrev pub tokens_from : ℕ → ℕ → List ℕ → List PlacedToken
tokens_from skip offset [] = []
tokens_from (suc skip) offset (b ∷ rest) = tokens_from skip (offset + 1) rest
tokens_from zero offset (b ∷ rest) =
    elim (is_blank b) [
      | true ↦ tokens_from zero (offset + 1) rest
      | false ↦ let front = front_token b rest (b ∷ rest) in record { offset = offset; token = front.token } ∷ tokens_from (front.size - 1) (offset + 1) rest
    ]

abbrev pub tokens : List ℕ → List PlacedToken
tokens bytes = tokens_from 0 0 bytes
