-- How words and bytes are shown, and what stands under them.
use Rattle.std.specs.Prelude.{ℕ, ◌+◌, ◌-◌, ◌/◌, ◌%◌, Bool, ◌&&◌, nat_le, nat_lt, List, [], ◌∷◌, ◌++◌, length, take, drop, max, replicate, Option, Some, None, if◌then◌else◌, codes}
use Rattle.std.specs.List.{flat_map, slice_get}
use Rattle.gufi_explain.specs.declared.shown.Wrapped.{Wrapped}

-- printable ASCII as it is, any other byte as a backslash and three octal digits
abbrev pub escaped_byte : ℕ → List ℕ
escaped_byte b = if nat_le 32 b && nat_lt b 127 then b ∷ [] else 92 ∷ (48 + b / 64) ∷ (48 + b / 8 % 8) ∷ (48 + b % 8) ∷ []

abbrev pub escaped : List ℕ → List ℕ
escaped bytes = flat_map escaped_byte bytes

-- a line of an explanation, which begins with two blanks
abbrev pub told : List ℕ → List ℕ
told text = codes "  " ++ (text ++ 10 ∷ [])

-- the word of that number is a wrapper's
abbrev pub is_hidden : Wrapped → ℕ → Bool
is_hidden wrapped k = nat_le wrapped.first k && nat_lt k (wrapped.first + wrapped.count)

-- the words that are not a wrapper's
abbrev pub own_words : Wrapped → List (List ℕ) → List (List ℕ)
own_words wrapped words = take (wrapped.first - 1) words ++ drop (wrapped.first - 1 + wrapped.count) words

-- each behind a blank
abbrev pub spaced : List (List ℕ) → List ℕ
spaced words = flat_map (λ word. 32 ∷ escaped word) words

abbrev pub shown_words : Wrapped → List (List ℕ) → List ℕ
shown_words wrapped words = spaced (own_words wrapped words)

-- so many marks, behind so many blanks and two more
abbrev pub mark_line : ℕ → ℕ → List ℕ
mark_line before width = codes "  " ++ (replicate before 32 ++ (replicate width 94 ++ 10 ∷ []))

-- how wide the mark is: as the word, and one where there is none or it is empty
abbrev pub width_of : Option (List ℕ) → ℕ
width_of None = 1
width_of (Some word) = max 1 (length (escaped word))

abbrev pub words_line : Wrapped → List (List ℕ) → List ℕ
words_line wrapped words = 32 ∷ (shown_words wrapped words ++ 10 ∷ [])

-- The words that aren't a wrapper's, with a mark under that of a place; where none stands there, behind the last one.
abbrev pub marked : Wrapped → List (List ℕ) → ℕ → List ℕ
marked wrapped words place = words_line wrapped words ++ mark_line (length (shown_words wrapped (take place words))) (width_of (slice_get words place))

-- a text, with a mark under an offset
abbrev pub marked_text : List ℕ → ℕ → List ℕ
marked_text text offset = told (escaped text) ++ mark_line (length (escaped (take offset text))) 1

-- how many bytes of a line or text are shown
abbrev pub most_shown : ℕ
most_shown = 200

-- the first of them
abbrev pub front_told : List ℕ → List ℕ
front_told text = told (escaped (take most_shown text))

-- where what is shown with a mark begins: of a longer text a hundred bytes before the mark
abbrev pub shown_from : List ℕ → ℕ → ℕ
shown_from text offset = if nat_le (length text) most_shown then 0 else offset - 100

abbrev pub marked_bytes : List ℕ → ℕ → ℕ → List ℕ
marked_bytes bytes offset width =
    told (escaped bytes) ++ mark_line (length (escaped (take offset bytes))) (max 1 (length (escaped (take width (drop offset bytes)))))

-- what is shown of a text, with a mark under so many bytes from an offset on
unfoldable pub marked_part : List ℕ → ℕ → ℕ → List ℕ
marked_part text offset width =
    let begin = shown_from text offset in
    marked_bytes (take most_shown (drop begin text)) (offset - begin) width
