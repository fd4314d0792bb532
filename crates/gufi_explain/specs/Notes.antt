-- The words of a note, which a blank or the line's end follows.
use Rattle.std.specs.Prelude.{ℕ, zero, suc, ◌+◌, Bool, ◌==◌, ◌||◌, List, [], ◌∷◌, length, take, drop, Option, Some, None, position, option_and_then, if◌then◌else◌, bytes_eq, codes}

abbrev pub is_break : ℕ → Bool
is_break b = b == 32 || b == 10

-- what stands before a place, where there is one, and what stands behind it
abbrev pub before_at : Option ℕ → List ℕ → List ℕ
before_at None text = text
before_at (Some at) text = take at text

abbrev pub behind_at : Option ℕ → List ℕ → List ℕ
behind_at None text = []
behind_at (Some at) text = drop (at + 1) text

unfoldable pub first_word : List ℕ → List ℕ
first_word text = before_at (position is_break text) text

unfoldable pub behind_word : List ℕ → List ℕ
behind_word text = behind_at (position is_break text) text

-- behind so many words
abbrev pub behind_words : ℕ → List ℕ → List ℕ
behind_words zero text = text
behind_words (suc count) text = behind_words count (behind_word text)

-- what stands behind a front, where the text begins with it
abbrev pub behind_front : List ℕ → List ℕ → Option (List ℕ)
behind_front front text = if bytes_eq (take (length front) text) front then Some (drop (length front) text) else None

-- what a note tells of the file of that name, where it begins with it
abbrev pub behind_file : List ℕ → List ℕ → Option (List ℕ)
behind_file file note = option_and_then (behind_front (32 ∷ [])) (option_and_then (behind_front file) (behind_front (codes "gufi: ") note))

-- ---- texts with a byte between their parts

unfoldable pub before_mark : ℕ → List ℕ → List ℕ
before_mark mark text = before_at (position (λ b. b == mark) text) text

abbrev pub behind_found : List ℕ → Option ℕ → Option (List ℕ)
behind_found text None = None
behind_found text (Some at) = Some (drop (at + 1) text)

-- what stands behind the first of the byte, where there is one
unfoldable pub behind_mark : ℕ → List ℕ → Option (List ℕ)
behind_mark mark text = behind_found text (position (λ b. b == mark) text)

-- what stands behind so many of the byte, where there are so many
abbrev pub behind_marks : ℕ → ℕ → List ℕ → Option (List ℕ)
behind_marks mark zero text = Some text
behind_marks mark (suc count) text = option_and_then (behind_marks mark count) (behind_mark mark text)
