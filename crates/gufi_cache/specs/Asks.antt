-- The bytes of an ask.
use Rattle.std.specs.Prelude.{ℕ, List, ◌∷◌, ◌++◌, length}
use Rattle.std.specs.Int.{to_le_bytes, w32}
use Rattle.std.specs.List.{flat_map}

-- a word, preceded by its length as u32 little endian
abbrev pub word_bytes : List ℕ → List ℕ
word_bytes word = to_le_bytes w32 (length word) ++ word

-- the first letter of the form, and then each word
abbrev pub ask_bytes : ℕ → List (List ℕ) → List ℕ
ask_bytes letter words = letter ∷ flat_map word_bytes words
