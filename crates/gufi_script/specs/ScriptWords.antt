-- The words of a line of a script.
use Rattle.std.specs.Prelude.{ℕ, Bool, false, not, ◌==◌, ◌&&◌, ◌||◌, List, [], ◌∷◌, map, filter}
use Rattle.std.specs.Char.{is_ascii_hexdigit}
use Rattle.std.specs.List.{slice_split}
use Rattle.percent_encoding.specs.Percent.{percent_decode}
use Rattle.gufi_base.specs.Basics.{is_empty}

abbrev pub separates_words : ℕ → Bool
separates_words b = b == 32 || b == 9

-- the parts of a line between spaces and tabs that aren't empty
abbrev pub raw_words : List ℕ → List (List ℕ)
raw_words text = filter (λ part. not (is_empty part)) (slice_split separates_words text)

-- In a word '%' and two hexadecimal digits stand for a byte; elsewhere no '%' may stand.
abbrev pub has_pair : List ℕ → Bool
has_pair [] = false
has_pair (c ∷ []) = false
has_pair (c ∷ d ∷ rest) = is_ascii_hexdigit c && is_ascii_hexdigit d

abbrev pub has_bad_escape : List ℕ → Bool
has_bad_escape [] = false
has_bad_escape (b ∷ rest) = (b == 37 && not (has_pair rest)) || has_bad_escape rest

abbrev pub words_of : List ℕ → List (List ℕ)
words_of text = map percent_decode (raw_words text)
