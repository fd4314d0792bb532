-- The name that is nearest to a word by spelling.
use Rattle.std.specs.Prelude.{ℕ, nat_le, nat_eq, List, [], ◌++◌, length, find, Option, Some, None, codes}
use Rattle.strsim.specs.Edits.{levenshtein_row}
use Rattle.gufi_explain.specs.declared.rules.Entry.{Entry}
use Rattle.gufi_explain.specs.Shown.{told}

-- how many insertions, deletions and substitutions lead from a word to a name
abbrev pub edits : List ℕ → Entry → ℕ
edits word entry = levenshtein_row nat_eq word entry.name.now (length entry.name.now)

-- the first name that so many edits lead to
abbrev pub within : ℕ → List ℕ → List Entry → Option Entry
within most word entries = find (λ entry. nat_le (edits word entry) most) entries

abbrev pub or_else : Option Entry → Option Entry → Option Entry
or_else None other = other
or_else (Some entry) other = Some entry

abbrev pub unless : Option Entry → Option Entry → Option Entry
unless None other = other
unless (Some entry) other = None

-- The first of those that fewest edits lead to, of at most two. A word that is there stands in a wrong place, and has none.
unfoldable pub nearest : List Entry → List ℕ → Option Entry
nearest entries word = unless (within 0 word entries) (or_else (within 1 word entries) (within 2 word entries))

abbrev pub name_line : Option Entry → List ℕ
name_line None = []
name_line (Some entry) = told (codes "nearest: " ++ entry.name.now)

-- the line of the nearest name, where there is one
abbrev pub nearest_line : List Entry → List ℕ → List ℕ
nearest_line entries word = name_line (nearest entries word)
