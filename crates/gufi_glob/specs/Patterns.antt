-- Patterns (XCU 2.13, in the C locale by bytes): how they are read, and what they match.
use Rattle.std.specs.Prelude.{ℕ, zero, suc, ◌+◌, Bool, true, false, not, ◌==◌, ◌&&◌, ◌||◌, nat_lt, nat_le, List, [], ◌∷◌, take, drop, Option, Some, None, option_map, Result, Ok, Err, if◌then◌else◌}
use Rattle.std.specs.List.{list_any}
use Rattle.gufi_base.specs.Basics.{is_empty, ◌>>=◌, ◌>>◌, refuse}
use Rattle.gufi_glob.specs.Parts.{Part, any_text, one_byte, byte_in, only}
use Rattle.gufi_glob.specs.declared.fault.GlobFault.{GlobFault}
use Rattle.gufi_glob.specs.declared.fault.GlobFault.TheVariants.{BadPattern}

-- ---- matching

abbrev pub is_within : ℕ → ℕ × ℕ → Bool
is_within b range = nat_le range.0 b && nat_le b range.1

abbrev pub is_among : Bool → List (ℕ × ℕ) → ℕ → Bool
is_among complement ranges b = if complement then not (list_any (is_within b) ranges) else list_any (is_within b) ranges

-- what is left of a text behind each of its fronts
abbrev pub suffixes : List ℕ → List (List ℕ)
suffixes [] = [] ∷ []
suffixes (b ∷ text) = (b ∷ text) ∷ suffixes text

-- the first byte passes, and the others match on
abbrev pub one_then : (ℕ → Bool) → (List ℕ → Bool) → List ℕ → Bool
one_then passes on [] = false
one_then passes on (b ∷ text) = elim (passes b) [ true ↦ on text | false ↦ false ]

-- The text can be cut into as many pieces as there are parts, each part matching its piece.
abbrev pub matches : List Part → List ℕ → Bool
matches [] text = is_empty text
matches (any_text ∷ parts) text = list_any (matches parts) (suffixes text)
matches (one_byte ∷ parts) text = one_then (λ b. true) (matches parts) text
matches (byte_in complement ranges ∷ parts) text = one_then (is_among complement ranges) (matches parts) text

-- ---- brackets: what follows the opening

-- how far it is to the next ']' that no backslash makes a member; the flag says that a backslash stands before
abbrev pub close_at : Bool → List ℕ → Option ℕ
close_at escaped [] = None
close_at escaped (b ∷ rest) =
    if not escaped && b == 93 then Some 0 else option_map (λ n. n + 1) (close_at (not escaped && b == 92) rest)

-- a ']' that stands first is a member
abbrev pub closing : List ℕ → Option ℕ
closing [] = None
closing (b ∷ rest) = if b == 93 then option_map (λ n. n + 1) (close_at false rest) else close_at false (b ∷ rest)

abbrev pub is_complemented : List ℕ → Bool
is_complemented [] = false
is_complemented (b ∷ rest) = b == 33 || b == 94

abbrev pub sign_length : List ℕ → ℕ
sign_length bytes = if is_complemented bytes then 1 else 0

-- the bytes that backslashes leave, each with whether one stood before it
abbrev pub unescaped_bytes : Bool → List ℕ → List (ℕ × Bool)
unescaped_bytes escaped [] = []
unescaped_bytes escaped (b ∷ rest) =
    if not escaped && b == 92 then unescaped_bytes true rest else (b, escaped) ∷ unescaped_bytes false rest

-- the end of a range, where a plain '-' and a further byte follow
abbrev pub range_end : List (ℕ × Bool) → Option ℕ
range_end [] = None
range_end (dash ∷ []) = None
range_end (dash ∷ to ∷ rest) = if dash.0 == 45 && not dash.1 then Some to.0 else None

abbrev pub range_length : Option ℕ → ℕ
range_length None = 0
range_length (Some to) = 2

abbrev pub range_from : ℕ → Option ℕ → ℕ × ℕ
range_from b None = (b, b)
range_from b (Some to) = (b, to)

-- members from the left; the number says how many bytes belong to a range before
abbrev pub members : ℕ → List (ℕ × Bool) → List (ℕ × ℕ)
members skip [] = []
members (suc skip) (b ∷ rest) = members skip rest
members zero (b ∷ rest) = range_from b.0 (range_end rest) ∷ members (range_length (range_end rest)) rest

abbrev pub ends_below : ℕ × ℕ → Bool
ends_below range = nat_lt range.1 range.0

-- "[:", "[." or "[="
abbrev pub is_class_sign : ℕ → Bool
is_class_sign b = b == 58 || b == 46 || b == 61

abbrev pub begins_class : List ℕ → Bool
begins_class [] = false
begins_class (b ∷ rest) = is_class_sign b

abbrev pub has_class : List ℕ → Bool
has_class [] = false
has_class (b ∷ rest) = (b == 91 && begins_class rest) || has_class rest

-- the part that a bracket makes of the bytes before its closing
abbrev pub bracket : Bool → List ℕ → Result Part GlobFault
bracket complement body =
    let ranges = members 0 (unescaped_bytes false body) in
    refuse (has_class body || list_any ends_below ranges) BadPattern >> Ok (byte_in complement ranges)

-- ---- patterns

-- the part at the front, and how many bytes behind the first one belong to it
abbrev pub bracket_part : List ℕ → Option ℕ → Result (Part × ℕ) GlobFault
bracket_part rest None = refuse (has_class rest) BadPattern >> Ok (only 91, 0)
bracket_part rest (Some n) =
    bracket (is_complemented rest) (take n (drop (sign_length rest) rest)) >>= λ part. Ok (part, sign_length rest + n + 1)

abbrev pub escaped_part : List ℕ → Result (Part × ℕ) GlobFault
escaped_part [] = Err BadPattern
escaped_part (b ∷ rest) = Ok (only b, 1)

abbrev pub front_part : ℕ → List ℕ → Result (Part × ℕ) GlobFault
front_part b rest =
    if b == 42 then Ok (any_text, 0)
    else if b == 63 then Ok (one_byte, 0)
    else if b == 92 then escaped_part rest
    else if b == 91 then bracket_part rest (closing (drop (sign_length rest) rest))
    else Ok (only b, 0)

-- The parts; the number says how many bytes belong to the part before.
unfoldable pub parts_from : ℕ → List ℕ → Result (List Part) GlobFault
parts_from skip [] = Ok []
parts_from (suc skip) (b ∷ rest) = parts_from skip rest
parts_from zero (b ∷ rest) = front_part b rest >>= λ part. parts_from part.1 rest >>= λ parts. Ok (part.0 ∷ parts)

abbrev pub read_pattern : List ℕ → Result (List Part) GlobFault
read_pattern bytes = parts_from 0 bytes
