-- What is told of a start that can't be listed.
use Rattle.std.specs.Prelude.{ℕ, ◌+◌, ◌-◌, ◌^◌, ◌==◌, min, List, [], ◌++◌, length, take, drop, Option, Some, None, position, Result, Ok, Err, if◌then◌else◌, bytes_eq, codes}
use Rattle.std.specs.List.{slice_get}
use Rattle.gufi_base.specs.Numbers.{read_u32}
use Rattle.gufi_base.specs.Paths.{Components, read_path, path_text}
use Rattle.gufi_base.specs.declared.path.PathFault.{PathFault}
use Rattle.gufi_explain.specs.declared.rules.CommandForm.{CommandForm}
use Rattle.gufi_explain.specs.declared.rules.Rules.{Rules}
use Rattle.gufi_explain.specs.declared.shown.Wrapped.{Wrapped}
use Rattle.gufi_explain.specs.declared.role.Role.{Role}
use Rattle.gufi_explain.specs.declared.role.Role.TheVariants.{Choice, Value, Behind}
use Rattle.gufi_explain.specs.Shown.{escaped, told, is_hidden}
use Rattle.gufi_explain.specs.Rules.{entry_of, command_of, rule_line}
use Rattle.gufi_explain.specs.Notes.{first_word, behind_word, behind_marks}
use Rattle.gufi_explain.specs.Refused.{option_word}
use Rattle.gufi_explain.specs.Roles.{role_from}

-- how many words of a command stand between its options and START, where it has one
abbrev pub before_start : CommandForm → Option ℕ
before_start command = position (λ entry. bytes_eq entry.name.now (codes "START")) command.words.now

-- the place of the word behind the options that so many stand before; the command's own where there is none
abbrev pub place_behind : Option ℕ → Role → ℕ
place_behind None role = 0
place_behind (Some before) Choice = 0
place_behind (Some before) Value = 0
place_behind (Some before) (Behind first) = min (first + before) (2 ^ 64 - 1)

abbrev pub start_place : Option CommandForm → List (List ℕ) → ℕ
start_place None words = 0
start_place (Some command) words = place_behind (before_start command) (role_from command.options.now 1 Choice (drop 1 words))

-- the text of a path up to the slash behind so many names
abbrev pub front_before : List ℕ → Option (List ℕ) → List ℕ
front_before text None = text
front_before text (Some rest) = take (length text - length rest - 1) text

unfoldable pub down_text : ℕ → List ℕ → List ℕ
down_text depth text = if depth == 0 then codes "/" else front_before text (behind_marks 47 (depth + 1) text)

-- the path of a start down to a depth
abbrev pub path_told : ℕ → Result Components PathFault → List ℕ
path_told depth (Err fault) = []
path_told depth (Ok path) = told (codes "at " ++ escaped (down_text depth (path_text path)))

-- where it is a word that isn't a wrapper's
abbrev pub down_to : Wrapped → ℕ → Option (List ℕ) → Option ℕ → List ℕ
down_to wrapped place word None = []
down_to wrapped place None (Some depth) = []
down_to wrapped place (Some word) (Some depth) = if is_hidden wrapped (place + 1) then [] else path_told depth (read_path word)

-- the number behind "depth", which is one of the first words of a note
abbrev pub depth_word : List ℕ → List ℕ
depth_word what =
    if bytes_eq (first_word what) (codes "denied") then first_word (behind_word (behind_word (behind_word what)))
    else if bytes_eq (first_word what) (codes "no") then first_word (behind_word (behind_word (behind_word (behind_word what))))
    else first_word (behind_word (behind_word (behind_word (behind_word (behind_word what)))))

-- the kind of a refusal: its first word, but for "not there"
unfoldable pub start_kind : List ℕ → List ℕ
start_kind what = if bytes_eq (first_word (behind_word what)) (codes "there") then codes "there" else first_word what

-- a note of status 1
unfoldable pub start_told : Rules → Wrapped → List (List ℕ) → List ℕ → List ℕ
start_told rules wrapped words note =
    let what = behind_word note in
    let place = start_place (command_of rules.commands.now (option_word (slice_get words 0))) words in
    down_to wrapped place (slice_get words place) (read_u32 (depth_word what)) ++ rule_line (entry_of rules.start_kinds.now (start_kind what))
