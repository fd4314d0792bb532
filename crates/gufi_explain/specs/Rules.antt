-- What the table of commands and rules tells: the first row of a name.
use Rattle.std.specs.Prelude.{ℕ, Bool, false, not, List, [], ◌∷◌, find, Option, Some, None, bytes_eq}
use Rattle.std.specs.List.{flat_map}
use Rattle.gufi_base.specs.Basics.{is_empty}
use Rattle.gufi_explain.specs.declared.rules.Entry.{Entry}
use Rattle.gufi_explain.specs.declared.rules.CommandForm.{CommandForm}
use Rattle.gufi_explain.specs.declared.rules.NamesBehind.{NamesBehind}
use Rattle.gufi_explain.specs.Shown.{told}

abbrev pub entry_of : List Entry → List ℕ → Option Entry
entry_of entries name = find (λ entry. bytes_eq entry.name.now name) entries

abbrev pub command_of : List CommandForm → List ℕ → Option CommandForm
command_of commands name = find (λ command. bytes_eq command.name.now name) commands

-- the names that may stand behind the words of a command
abbrev pub names_of : Option NamesBehind → List Entry
names_of None = []
names_of (Some row) = row.names.now

abbrev pub row_of : List NamesBehind → List ℕ → Option NamesBehind
row_of rows command = find (λ row. bytes_eq row.command.now command) rows

abbrev pub names_behind : List NamesBehind → List ℕ → List Entry
names_behind rows command = names_of (row_of rows command)

-- an option takes a value, in its own word or in the next
abbrev pub takes_value : Option Entry → Bool
takes_value None = false
takes_value (Some option) = not (is_empty option.value.now)

-- the line of a rule, where there is one
abbrev pub rule_line : Option Entry → List ℕ
rule_line None = []
rule_line (Some entry) = told entry.rule.now

-- names, each behind a blank
abbrev pub listed : List Entry → List ℕ
listed entries = flat_map (λ entry. 32 ∷ entry.name.now) entries

-- what the value of an option must be: its rule, or what the option gives
abbrev pub rule_or : Entry → Option Entry → List ℕ
rule_or option None = option.rule.now
rule_or option (Some entry) = entry.rule.now

abbrev pub value_rule : List Entry → Entry → List ℕ
value_rule values option = rule_or option (entry_of values option.name.now)
