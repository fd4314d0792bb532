-- What is told of a refused word, by what its note tells.
use Rattle.std.specs.Prelude.{ℕ, ◌-◌, Bool, not, ◌&&◌, ◌||◌, ◌==◌, nat_le, List, [], ◌++◌, map, drop, Option, Some, None, position, if◌then◌else◌, bytes_eq, codes}
use Rattle.std.specs.List.{slice_get}
use Rattle.std.specs.Char.{to_ascii_lowercase}
use Rattle.gufi_base.specs.Basics.{is_empty}
use Rattle.gufi_base.specs.Numbers.{read_u32}
use Rattle.gufi_explain.specs.declared.rules.Entry.{Entry}
use Rattle.gufi_explain.specs.declared.rules.Rules.{Rules}
use Rattle.gufi_explain.specs.declared.shown.Wrapped.{Wrapped}
use Rattle.gufi_explain.specs.Shown.{told, is_hidden, marked, marked_text}
use Rattle.gufi_explain.specs.Rules.{entry_of, names_behind, rule_line}
use Rattle.gufi_explain.specs.Nearest.{nearest_line}
use Rattle.gufi_explain.specs.Notes.{before_at, first_word, behind_word}
use Rattle.gufi_explain.specs.Refused.{option_word, refused_at}

-- the names that may stand behind the words of the command
abbrev pub names_after : Rules → List (List ℕ) → List Entry
names_after rules words = names_behind rules.behind.now (option_word (slice_get words 0))

-- ---- a word of an expression

abbrev pub primary_line : Rules → List (List ℕ) → ℕ → List ℕ → List ℕ
primary_line rules words place kind =
    if bytes_eq kind (codes "UnknownPrimary") then nearest_line (names_after rules words) (option_word (slice_get words place)) else []

unfoldable pub kind_at : Rules → Wrapped → List (List ℕ) → ℕ → List ℕ → List ℕ
kind_at rules wrapped words place kind =
    marked wrapped words place ++ (rule_line (entry_of rules.word_kinds.now kind) ++ primary_line rules words place kind)

-- ---- an offset of a SELECT

abbrev pub is_of_name : ℕ → Bool
is_of_name b = (nat_le 48 b && nat_le b 57) || (nat_le 65 b && nat_le b 90) || (nat_le 97 b && nat_le b 122) || b == 95

-- the name that stands at an offset, in small letters
abbrev pub name_at : List ℕ → ℕ → List ℕ
name_at text offset = map to_ascii_lowercase (before_at (position (λ b. not (is_of_name b)) (drop offset text)) (drop offset text))

abbrev pub text_name_line : List Entry → List ℕ → List ℕ
text_name_line names name = if is_empty name then [] else nearest_line names name

abbrev pub text_lines_at : Rules → List Entry → List ℕ → List ℕ → Option ℕ → List ℕ
text_lines_at rules names text kind None = []
text_lines_at rules names text kind (Some offset) =
    marked_text text offset ++ (rule_line (entry_of rules.text_kinds.now kind) ++ text_name_line names (name_at text offset))

-- what the note tells behind "at": the offset and the kind
unfoldable pub text_at : Rules → List (List ℕ) → ℕ → List ℕ → List ℕ
text_at rules words place what =
    text_lines_at rules (names_after rules words) (option_word (slice_get words place)) (first_word (behind_word what)) (read_u32 (first_word what))

-- ---- all

-- what the note tells of the word at a place
abbrev pub fault_at : Rules → Wrapped → List (List ℕ) → ℕ → List ℕ → List ℕ
fault_at rules wrapped words place what =
    if bytes_eq (first_word what) (codes "refused") then refused_at rules wrapped words place
    else if bytes_eq (first_word what) (codes "at") then text_at rules words place (behind_word what)
    else kind_at rules wrapped words place (first_word what)

-- of a wrapper's word nothing is shown
abbrev pub number_told : Rules → Wrapped → List (List ℕ) → List ℕ → Option ℕ → List ℕ
number_told rules wrapped words what None = []
number_told rules wrapped words what (Some k) =
    if is_hidden wrapped k then told (codes "the word is the wrapper's") else fault_at rules wrapped words (k - 1) what

-- a note of status 2, "gufi: word K " and what is told of it
unfoldable pub word_told : Rules → Wrapped → List (List ℕ) → List ℕ → List ℕ
word_told rules wrapped words note =
    let number = behind_word (behind_word note) in
    number_told rules wrapped words (behind_word number) (read_u32 (first_word number))
