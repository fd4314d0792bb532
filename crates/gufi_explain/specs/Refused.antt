-- Why the words of a command are refused at one of them.
use Rattle.std.specs.Prelude.{ℕ, ◌-◌, Bool, false, not, ◌&&◌, ◌==◌, nat_le, nat_lt, List, [], ◌∷◌, ◌++◌, length, take, drop, Option, Some, None, if◌then◌else◌, bytes_eq, codes}
use Rattle.std.specs.List.{slice_get, list_any}
use Rattle.gufi_base.specs.Basics.{is_empty}
use Rattle.gufi_words.specs.WordOptions.{before_equals, has_equals, after_equals}
use Rattle.gufi_explain.specs.declared.rules.Entry.{Entry}
use Rattle.gufi_explain.specs.declared.rules.CommandForm.{CommandForm}
use Rattle.gufi_explain.specs.declared.rules.Rules.{Rules}
use Rattle.gufi_explain.specs.declared.shown.Wrapped.{Wrapped}
use Rattle.gufi_explain.specs.declared.role.Role.{Role}
use Rattle.gufi_explain.specs.declared.role.Role.TheVariants.{Choice, Value, Behind}
use Rattle.gufi_explain.specs.Shown.{escaped, told, is_hidden, marked}
use Rattle.gufi_explain.specs.Rules.{entry_of, command_of, names_behind, listed, value_rule}
use Rattle.gufi_explain.specs.Nearest.{nearest_line}
use Rattle.gufi_explain.specs.Roles.{role_at}

-- ---- the name of a command

unfoldable pub commands_line : Rules → List ℕ
commands_line rules = told (codes "the commands are" ++ listed rules.names.now)

unfoldable pub missing_line : List ℕ
missing_line = told (codes "COMMAND is missing")

unfoldable pub unknown_line : List ℕ
unknown_line = told (codes "no command")

abbrev pub why_command : Rules → Option (List ℕ) → List ℕ
why_command rules None = missing_line ++ commands_line rules
why_command rules (Some word) = unknown_line ++ (commands_line rules ++ nearest_line rules.names.now word)

-- ---- an option

abbrev pub options_line : CommandForm → List ℕ
options_line command =
    if is_empty command.options.now then told (command.name.now ++ codes " has no options")
    else told (codes "not an option of " ++ (command.name.now ++ (codes ", whose options are" ++ listed command.options.now)))

-- the option stands among the words
abbrev pub is_given : List (List ℕ) → Entry → Bool
is_given words option = list_any (λ word. bytes_eq (before_equals word) option.name.now) words

abbrev pub value_line : Rules → Entry → List ℕ
value_line rules option = told (codes "the value of " ++ (option.name.now ++ (codes " is " ++ value_rule rules.values.now option)))

-- the option is one of the command's: it stands twice, or has a value that it doesn't take, or one that can't be taken, or stands beside another
abbrev pub why_known : Rules → List (List ℕ) → List ℕ → Entry → List ℕ
why_known rules before word option =
    if is_given before option then told (option.name.now ++ codes " is given twice")
    else if not (has_equals word) then told (option.name.now ++ codes " can't stand beside an option before it")
    else if is_empty option.value.now then told (option.name.now ++ codes " takes no value")
    else value_line rules option

abbrev pub why_option : Rules → CommandForm → List (List ℕ) → List ℕ → Option Entry → List ℕ
why_option rules command before word None = options_line command ++ nearest_line command.options.now (before_equals word)
why_option rules command before word (Some option) = why_known rules before word option

-- ---- the value of the option before it

abbrev pub why_value : Rules → Option (List ℕ) → Option Entry → List ℕ
why_value rules word None = []
why_value rules None (Some option) = told (codes "the value of " ++ (option.name.now ++ (codes " is missing: " ++ value_rule rules.values.now option)))
why_value rules (Some word) (Some option) = value_line rules option

-- ---- a word behind the options

-- the file that stands behind "--passwd", in its own word or in the next
abbrev pub file_at : Option (List ℕ) → Option (List ℕ) → Option (List ℕ)
file_at None next = next
file_at (Some file) next = Some file

abbrev pub passwd_of : List (List ℕ) → Option (List ℕ)
passwd_of [] = None
passwd_of (word ∷ rest) = if bytes_eq (before_equals word) (codes "--passwd") then file_at (after_equals word) (slice_get rest 0) else passwd_of rest

-- a name of USER that isn't known; the name of a wrapper's file isn't told
abbrev pub passwd_line : Wrapped → Option (List ℕ) → List ℕ
passwd_line wrapped None = told (codes "names need --passwd")
passwd_line wrapped (Some file) = if wrapped.count == 0 then told (codes "no such name in " ++ escaped file) else told (codes "no such name")

-- a word that begins with a digit is no name
abbrev pub begins_with_digit : List ℕ → Bool
begins_with_digit [] = false
begins_with_digit (b ∷ rest) = nat_le 48 b && nat_lt b 58

abbrev pub name_lines : Wrapped → List (List ℕ) → List ℕ → List ℕ
name_lines wrapped before word = if begins_with_digit word then [] else passwd_line wrapped (passwd_of before)

-- the names are those that may stand behind the words
abbrev pub why_given : Wrapped → List Entry → List (List ℕ) → List ℕ → Entry → List ℕ
why_given wrapped names before word entry =
    told (entry.name.now ++ (codes " is " ++ entry.rule.now))
    ++ (if bytes_eq entry.name.now (codes "USER") then name_lines wrapped before word else nearest_line names word)

abbrev pub why_named : Wrapped → List Entry → List (List ℕ) → Option (List ℕ) → Entry → List ℕ
why_named wrapped names before None entry = told (entry.name.now ++ (codes " is missing: " ++ entry.rule.now))
why_named wrapped names before (Some word) entry = why_given wrapped names before word entry

-- the names that may stand in place of the word of a command that so many stand before: they stand behind the words, and in place of the last
abbrev pub names_at : Rules → CommandForm → ℕ → List Entry
names_at rules command at = if length command.words.now - at == 1 then names_behind rules.behind.now command.name.now else []

abbrev pub why_behind : Rules → Wrapped → CommandForm → List (List ℕ) → Option (List ℕ) → ℕ → Option Entry → List ℕ
why_behind rules wrapped command before word at None = told (command.name.now ++ (codes " takes " ++ command.synopsis.now))
why_behind rules wrapped command before word at (Some entry) = why_named wrapped (names_at rules command at) before word entry

-- ---- all

abbrev pub option_word : Option (List ℕ) → List ℕ
option_word None = []
option_word (Some word) = word

-- what is told of the word at a place, by its role; of a wrapper's option nothing
abbrev pub why_role : Rules → Wrapped → CommandForm → List (List ℕ) → ℕ → Role → List ℕ
why_role rules wrapped command words place Choice =
    let word = option_word (slice_get words place) in
    why_option rules command (drop 1 (take place words)) word (entry_of command.options.now (before_equals word))
why_role rules wrapped command words place Value =
    if is_hidden wrapped place then [] else why_value rules (slice_get words place) (entry_of command.options.now (before_equals (option_word (slice_get words (place - 1)))))
why_role rules wrapped command words place (Behind first) =
    why_behind rules wrapped command (drop 1 (take place words)) (slice_get words place) (place - first) (slice_get command.words.now (place - first))

-- what is told of the word at a place of a command, or that there is none of that name
abbrev pub why_word : Rules → Wrapped → List (List ℕ) → ℕ → List ℕ → Option CommandForm → List ℕ
why_word rules wrapped words place name None = why_command rules (Some name)
why_word rules wrapped words place name (Some command) = why_role rules wrapped command words place (role_at command.options.now words place)

-- the words with a mark under the one of a place, and why it is refused; without any word there is nothing to mark
abbrev pub refused_by : Rules → Wrapped → List (List ℕ) → ℕ → Option (List ℕ) → List ℕ
refused_by rules wrapped words place None = why_command rules None
refused_by rules wrapped words place (Some name) = marked wrapped words place ++ why_word rules wrapped words place name (command_of rules.commands.now name)

unfoldable pub refused_at : Rules → Wrapped → List (List ℕ) → ℕ → List ℕ
refused_at rules wrapped words place = refused_by rules wrapped words place (slice_get words 0)
