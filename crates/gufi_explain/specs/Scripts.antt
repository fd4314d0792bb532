-- What is shown of a damaged line of a script: the word or the offset at which it is at fault.
use Rattle.std.specs.Prelude.{ℕ, zero, suc, ◌+◌, ◌-◌, Bool, true, false, not, ◌==◌, ◌&&◌, ◌||◌, List, [], ◌∷◌, ◌++◌, length, drop, position, Option, Some, None, is_some, Result, Ok, Err, if◌then◌else◌, bytes_eq, codes, decimal}
use Rattle.gufi_base.specs.Basics.{part_at}
use Rattle.gufi_words.specs.CommandWords.{read_words}
use Rattle.gufi_words.specs.declared.word.WordError.{WordError}
use Rattle.gufi_words.specs.declared.command.Command.{Command}
use Rattle.gufi_words.specs.declared.command.Command.TheVariants.{Session}
use Rattle.gufi_users.specs.Entries.{UserTables}
use Rattle.gufi_script.specs.ScriptWords.{separates_words, raw_words, has_pair}
use Rattle.gufi_script.specs.ScriptText.{PlacedAct, read_script}
use Rattle.gufi_script.specs.declared.fault.ScriptError.{ScriptError}
use Rattle.gufi_script.specs.declared.act.Form.{Form}
use Rattle.gufi_script.specs.declared.act.Form.TheVariants as forms
use Rattle.gufi_script.specs.declared.act.Act.{Act}
use Rattle.gufi_script.specs.declared.act.Act.TheVariants.{Ask}
use Rattle.gufi_find.specs.Expressions.{Find}
use Rattle.gufi_find.specs.Reading.{read_find}
use Rattle.gufi_find.specs.Faults.{find_kind_text}
use Rattle.gufi_find.specs.declared.fault.FindKind.{FindKind}
use Rattle.gufi_find.specs.declared.fault.FindKind.TheVariants.{UnknownPrimary, UnknownUser, UnknownGroup}
use Rattle.gufi_find.specs.declared.fault.FindError.{FindError}
use Rattle.gufi_find.specs.declared.fault.FindError.TheVariants as find
use Rattle.gufi_select.specs.Columns.{Select}
use Rattle.gufi_select.specs.Reading.{read_select}
use Rattle.gufi_select.specs.Faults.{select_kind_text}
use Rattle.gufi_select.specs.declared.fault.SelectKind.{SelectKind}
use Rattle.gufi_select.specs.declared.fault.SelectError.{SelectError}
use Rattle.gufi_select.specs.declared.fault.SelectError.TheVariants as select
use Rattle.std.specs.List.{join_with_byte}
use Rattle.gufi_explain.specs.declared.rules.Rules.{Rules}
use Rattle.gufi_explain.specs.declared.script.Setting.{Setting}
use Rattle.gufi_explain.specs.Shown.{told, front_told, marked_part}
use Rattle.gufi_explain.specs.Rules.{entry_of, names_behind, rule_line}
use Rattle.gufi_explain.specs.Nearest.{nearest_line}
use Rattle.gufi_explain.specs.Notes.{before_at}
use Rattle.gufi_explain.specs.Faults.{name_at, text_name_line}

-- ---- whether a file is a script

abbrev pub is_named : Option (List ℕ) → List ℕ → Bool
is_named None file = false
is_named (Some name) file = bytes_eq name file

abbrev pub setting_in : List ℕ → Result Command WordError → Option Setting
setting_in file (Ok (Session passwd group delim workers now cache script)) =
    if bytes_eq script file && not (is_named passwd file || is_named group file)
    then Some (record { now = now; has_passwd = is_some passwd; has_group = is_some group })
    else None
setting_in file other = None

-- The words are a session's, whose script is the file of that name, and whose passwd and group files are others.
unfoldable pub setting_of : List (List ℕ) → List ℕ → Option Setting
setting_of words file = setting_in file (read_words words)

-- ---- the words of a line, as they stand in it

-- from a place on, where there is one
abbrev pub from_at : Option ℕ → List ℕ → List ℕ
from_at None text = []
from_at (Some at) text = drop at text

-- from its first word on
unfoldable pub from_word : List ℕ → List ℕ
from_word text = from_at (position (λ b. not (separates_words b)) text) text

-- the word at the front, and what stands behind it
unfoldable pub word_front : List ℕ → List ℕ
word_front text = before_at (position separates_words text) text

unfoldable pub behind_front_word : List ℕ → List ℕ
behind_front_word text = from_at (position separates_words text) text

-- from the word behind so many on
abbrev pub from_words : ℕ → List ℕ → List ℕ
from_words zero text = from_word text
from_words (suc count) text = from_words count (behind_front_word (from_word text))

abbrev pub marked_from : List ℕ → List ℕ → List ℕ
marked_from line rest = marked_part line (length line - length rest) (length (word_front rest))

-- the line, with a mark under the word of a number, from 1, or behind its end
unfoldable pub marked_word : List ℕ → ℕ → List ℕ
marked_word line k = marked_from line (from_words (k - 1) line)

-- the offset of the first % without two hexadecimal digits, or the line's end
abbrev pub bad_escape_at : List ℕ → ℕ
bad_escape_at [] = 0
bad_escape_at (b ∷ rest) = if b == 37 && not (has_pair rest) then 0 else bad_escape_at rest + 1

-- ---- the words of an ask

-- names are not looked up again
abbrev pub names_line : List ℕ → Bool → List ℕ
names_line option false = told (codes "names need " ++ option)
names_line option true = told (codes "it is that word, or one behind it: the file of " ++ (option ++ codes " isn't read again"))

-- what is told of a kind beside its rule
abbrev pub kind_lines : Rules → Setting → FindKind → List ℕ → List ℕ
kind_lines rules setting UnknownPrimary word = nearest_line (names_behind rules.behind.now (codes "find")) word
kind_lines rules setting UnknownUser word = names_line (codes "--passwd") setting.has_passwd
kind_lines rules setting UnknownGroup word = names_line (codes "--group") setting.has_group
kind_lines rules setting kind word = []

-- the first fault of an expression: the number of its word, from 1, and the kind
abbrev pub find_fault : Result Find FindError → Option (ℕ × FindKind)
find_fault (Err (find.Fault n kind)) = Some (n, kind)
find_fault given = None

-- the words of an expression stand behind five others
abbrev pub find_lines : Rules → Setting → List ℕ → List (List ℕ) → Option (ℕ × FindKind) → List ℕ
find_lines rules setting line words None = front_told line
find_lines rules setting line words (Some fault) =
    marked_word line (fault.0 + 5)
    ++ (rule_line (entry_of rules.word_kinds.now (find_kind_text fault.1)) ++ kind_lines rules setting fault.1 (part_at words fault.0))

-- that of a SELECT: its offset and the kind
abbrev pub select_fault : Result Select SelectError → Option (ℕ × SelectKind)
select_fault (Err (select.Fault at kind)) = Some (at, kind)
select_fault given = None

abbrev pub select_lines : Rules → List ℕ → List ℕ → Option (ℕ × SelectKind) → List ℕ
select_lines rules line text None = front_told line
select_lines rules line text (Some fault) =
    front_told line
    ++ (marked_part text fault.0 1
    ++ (rule_line (entry_of rules.text_kinds.now (select_kind_text fault.1)) ++ text_name_line (names_behind rules.behind.now (codes "query")) (name_at text fault.0)))

abbrev pub no_users : UserTables
no_users = record { users = []; groups = [] }

-- The readers judge the words, to whom no name of a user or group is known here. Those of a SELECT have a space between two.
abbrev pub form_lines : Rules → Setting → List ℕ → Form → List (List ℕ) → List ℕ
form_lines rules setting line forms.Find words = find_lines rules setting line words (find_fault (read_find words no_users setting.now))
form_lines rules setting line forms.Total words = find_lines rules setting line words (find_fault (read_find words no_users setting.now))
form_lines rules setting line forms.Query words =
    let text = join_with_byte 32 words in select_lines rules line text (select_fault (read_select text))

abbrev pub act_lines : Rules → Setting → List ℕ → Act → List ℕ
act_lines rules setting line (Ask lane user path form words) = form_lines rules setting line form words
act_lines rules setting line act = front_told line

-- the line as a script of its own
abbrev pub query_lines : Rules → Setting → List ℕ → Result (List PlacedAct) ScriptError → List ℕ
query_lines rules setting line (Ok (placed ∷ rest)) = act_lines rules setting line placed.1
query_lines rules setting line given = front_told line

-- ---- all

-- the number of the word that a kind means, in a line of so many words
abbrev pub word_meant : List ℕ → ℕ → Option ℕ
word_meant kind count =
    if bytes_eq kind (codes "Verb") then Some 1
    else if bytes_eq kind (codes "Number") || bytes_eq kind (codes "Lane") then Some 2
    else if bytes_eq kind (codes "Path") then Some (if count == 3 then 2 else 4)
    else if bytes_eq kind (codes "File") || bytes_eq kind (codes "User") then Some 3
    else if bytes_eq kind (codes "Form") then Some 5
    else None

abbrev pub meant_lines : List ℕ → Option ℕ → List ℕ
meant_lines line None = front_told line
meant_lines line (Some k) = marked_word line k

abbrev pub counted_lines : List ℕ → ℕ → List ℕ
counted_lines line count = front_told line ++ told (codes "words in the line: " ++ decimal count)

unfoldable pub script_lines : Rules → Setting → List ℕ → List ℕ → List ℕ
script_lines rules setting kind line =
    if bytes_eq kind (codes "Escape") then marked_part line (bad_escape_at line) 1
    else if bytes_eq kind (codes "Query") then query_lines rules setting line (read_script line)
    else if bytes_eq kind (codes "Count") then counted_lines line (length (raw_words line))
    else meant_lines line (word_meant kind (length (raw_words line)))
