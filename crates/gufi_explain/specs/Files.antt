-- What is told of a file that can't be read, that is damaged, or that passes a limit.
use Rattle.std.specs.Prelude.{ℕ, ◌-◌, Bool, true, false, List, [], ◌++◌, take, drop, length, nat_lt, Option, Some, None, if◌then◌else◌, bytes_eq, codes}
use Rattle.std.specs.declared.io.ErrorKind.{ErrorKind}
use Rattle.gufi_base.specs.Numbers.{read_u32}
use Rattle.gufi_explain.specs.declared.rules.Rules.{Rules}
use Rattle.gufi_explain.specs.declared.script.Setting.{Setting}
use Rattle.gufi_explain.specs.Shown.{escaped, told, front_told}
use Rattle.gufi_explain.specs.Rules.{entry_of, rule_line}
use Rattle.gufi_explain.specs.Errors.{error_words}
use Rattle.gufi_explain.specs.Notes.{first_word, behind_word, behind_file, before_mark, behind_marks}
use Rattle.gufi_explain.specs.Scripts.{setting_of, script_lines}

-- ---- why it can't be read

-- the name of the file that was opened last, where it may be shown
abbrev pub name_before : Bool → Option (List ℕ) → List ℕ
name_before false file = []
name_before true None = []
name_before true (Some file) = escaped file ++ codes ": "

abbrev pub error_told : Bool → Option (List ℕ) → Option ErrorKind → List ℕ
error_told files file None = []
error_told files file (Some kind) = told (name_before files file ++ error_words kind)

-- ---- what stands in it

abbrev pub unread : List ℕ
unread = told (codes "what stands there can't be read again")

-- a line that is damaged so; of a script with the place of that
abbrev pub damaged_line : Rules → Option Setting → List ℕ → List ℕ → List ℕ
damaged_line rules None kind line = front_told line
damaged_line rules (Some setting) kind line = script_lines rules setting kind line

abbrev pub line_from : Rules → Option Setting → List ℕ → Option (List ℕ) → List ℕ
line_from rules script kind None = unread
line_from rules script kind (Some text) = damaged_line rules script kind (before_mark 10 text)

-- the line of that number, from 1
abbrev pub line_told : Rules → Option Setting → List ℕ → Option (List ℕ) → ℕ → List ℕ
line_told rules script kind None k = unread
line_told rules script kind (Some bytes) k = line_from rules script kind (behind_marks 10 (k - 1) bytes)

-- the first bytes from an offset on
abbrev pub offset_told : Option (List ℕ) → ℕ → List ℕ
offset_told None offset = unread
offset_told (Some bytes) offset = if nat_lt offset (length bytes) then told (escaped (take 16 (drop offset bytes))) else told (codes "the file ends there")

-- where its contents may be shown
abbrev pub shown_line : Rules → Bool → Option Setting → List ℕ → Option (List ℕ) → Option ℕ → List ℕ
shown_line rules false script kind bytes place = []
shown_line rules true script kind bytes None = []
shown_line rules true script kind bytes (Some k) = line_told rules script kind bytes k

abbrev pub shown_offset : Bool → Option (List ℕ) → Option ℕ → List ℕ
shown_offset false bytes place = []
shown_offset true bytes None = []
shown_offset true bytes (Some offset) = offset_told bytes offset

-- ---- its damage, as the note tells it behind the name of the file

-- "line N KIND", where a field's number may stand behind the kind
unfoldable pub line_lines : Rules → Bool → Option Setting → Option (List ℕ) → List ℕ → List ℕ
line_lines rules files script bytes what =
    let kind = behind_word what in
    shown_line rules files script (first_word kind) bytes (read_u32 (first_word what))
    ++ (rule_line (entry_of rules.line_kinds.now (first_word kind)) ++ rule_line (entry_of rules.fields.now (first_word (behind_word kind))))

-- "offset N KIND"
unfoldable pub offset_lines : Rules → Bool → Option (List ℕ) → List ℕ → List ℕ
offset_lines rules files bytes what =
    shown_offset files bytes (read_u32 (first_word what)) ++ rule_line (entry_of rules.offset_kinds.now (first_word (behind_word what)))

abbrev pub damage_lines : Rules → Bool → Option Setting → Option (List ℕ) → Option (List ℕ) → List ℕ
damage_lines rules files script bytes None = []
damage_lines rules files script bytes (Some what) =
    if bytes_eq (first_word what) (codes "line") then line_lines rules files script bytes (behind_word what)
    else if bytes_eq (first_word what) (codes "offset") then offset_lines rules files bytes (behind_word what)
    else rule_line (entry_of rules.file_kinds.now (first_word what))

-- a note of status 5, of the file that was opened last; the words tell whether it is a script
abbrev pub damage_told : Rules → Bool → List (List ℕ) → Option (List ℕ) → Option (List ℕ) → List ℕ → List ℕ
damage_told rules files words bytes None note = []
damage_told rules files words bytes (Some file) note = damage_lines rules files (setting_of words file) bytes (behind_file file note)

-- ---- the limit that it passes

abbrev pub limit_lines : Rules → Option (List ℕ) → List ℕ
limit_lines rules None = []
limit_lines rules (Some what) = rule_line (entry_of rules.limits.now (first_word (behind_word what)))

-- a note of status 6, of the file that was opened last
abbrev pub limit_told : Rules → Option (List ℕ) → List ℕ → List ℕ
limit_told rules None note = []
limit_told rules (Some file) note = limit_lines rules (behind_file file note)
