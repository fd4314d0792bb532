-- Words that a wrapper put in, how an option tells of them, and how a note counts words without them.
use Rattle.std.specs.Prelude.{ℕ, ◌+◌, ◌-◌, ◌==◌, nat_lt, List, [], ◌∷◌, ◌++◌, length, take, drop, Option, Some, None, option_map, option_and_then, if◌then◌else◌, bytes_eq, codes, decimal}
use Rattle.std.specs.Bool.{nat_eq}
use Rattle.std.specs.List.{starts_with, position_or_len, before_first, after_first}
use Rattle.gufi_base.specs.Numbers.{read_u32}
use Rattle.gufi_words.specs.WordOptions.{before_equals, after_equals}
use Rattle.gufi_help.specs.declared.inserted.Inserted.{Inserted}

-- ---- the option, --inserted=FIRST,COUNT in front of a command: so many words were put in, from the word of that number on

abbrev pub inserted_with : Option ℕ → Option ℕ → Option Inserted
inserted_with None count = None
inserted_with (Some first) None = None
inserted_with (Some first) (Some count) = if nat_lt 0 first then Some (record { first = first; count = count }) else None

-- two numbers below 2^32 with a comma between, of which the first isn't 0
abbrev pub inserted_value : List ℕ → Option Inserted
inserted_value text =
    if nat_lt (position_or_len (λ b. b == 44) text) (length text)
    then inserted_with (read_u32 (before_first (λ b. b == 44) text)) (read_u32 (after_first (λ b. b == 44) text))
    else None

unfoldable pub inserted_in : List ℕ → Option Inserted
inserted_in word = if bytes_eq (before_equals word) (codes "--inserted") then option_and_then inserted_value (after_equals word) else None

-- what the first word tells; all other words are those of a command, or of none
abbrev pub inserted_of : List (List ℕ) → Option Inserted
inserted_of [] = None
inserted_of (word ∷ words) = inserted_in word

-- ---- notes that name a word

-- The word of that number, as the caller counts. One that was put in isn't his: it keeps its number, and the note says whose it is.
abbrev pub word_for_caller : Inserted → ℕ → List ℕ
word_for_caller inserted k =
    if nat_lt k inserted.first then codes "word " ++ decimal k
    else if nat_lt k (inserted.first + inserted.count) then codes "inserted word " ++ decimal k
    else codes "word " ++ decimal (k - inserted.count)

-- the number of a word ends at a blank
abbrev pub blank_at : List ℕ → ℕ
blank_at text = position_or_len (λ b. b == 32) text

abbrev pub numbered_behind : List ℕ → Option (ℕ × List ℕ)
numbered_behind text = option_map (λ k. (k, drop (blank_at text) text)) (read_u32 (take (blank_at text) text))

-- the number of the word with which a note begins, and what is told of it
unfoldable pub numbered : List ℕ → Option (ℕ × List ℕ)
numbered note = if starts_with nat_eq note (codes "gufi: word ") then numbered_behind (drop 11 note) else None

abbrev pub renumbered_by : Inserted → List ℕ → Option (ℕ × List ℕ) → List ℕ
renumbered_by inserted note None = note
renumbered_by inserted note (Some word) = codes "gufi: " ++ (word_for_caller inserted word.0 ++ word.1)

-- a note that begins with the number of a word has that of the caller in its place, and all else as it is
abbrev pub renumbered : Inserted → List ℕ → List ℕ
renumbered inserted note = renumbered_by inserted note (numbered note)

-- only status 2 tells of words: the notes of other statuses begin with the name of a file, which may be that of a word
abbrev pub note_for_caller : Inserted → ℕ → List ℕ → List ℕ
note_for_caller inserted status note = if status == 2 then renumbered inserted note else note
