-- Why a command is refused, and what its files mean or are refused for.
use Rattle.std.specs.Prelude.{ℕ, ◌+◌, nat_lt, Bool, true, false, List, [], ◌++◌, length, Option, Some, None, ok_or, unwrap_or, Result, Ok, if◌then◌else◌, codes, decimal}
use Rattle.std.specs.Bool.{nat_eq}
use Rattle.std.specs.List.{starts_with}
use Rattle.gufi_io.specs.Files.{Files}
use Rattle.gufi_base.specs.Limits.{max_dirs, max_entries, max_trace, max_image, max_users, max_script}
use Rattle.gufi_base.specs.Basics.{line, capped_number, ◌>>=◌, ◌>>◌, refuse, result_map_err}
use Rattle.gufi_tree.specs.Tree.{Directory}
use Rattle.gufi_snap.specs.Snap.{Snap}
use Rattle.gufi_snap.specs.declared.refresh.RefreshFault.{RefreshFault}
use Rattle.gufi_snap.specs.declared.refresh.RefreshFault.TheVariants as refresh_faults
use Rattle.gufi_image.specs.Bytes.{magic}
use Rattle.gufi_image.specs.Reading.{image_means}
use Rattle.gufi_image.specs.Kinds.{image_kind_text}
use Rattle.gufi_image.specs.declared.fault.ImageKind.{ImageKind}
use Rattle.gufi_image.specs.declared.fault.ImageKind.TheVariants as image_kinds
use Rattle.gufi_image.specs.declared.fault.ImageError.{ImageError}
use Rattle.gufi_image.specs.declared.fault.ImageError.TheVariants as image_errors
use Rattle.gufi_walk.specs.declared.refusal.Refusal.{Refusal}
use Rattle.gufi_walk.specs.declared.refusal.Refusal.TheVariants as refusals
use Rattle.gufi_walk.specs.Refusals.{refusal_text}
use Rattle.gufi_line.specs.declared.fault.TraceKind.{TraceKind}
use Rattle.gufi_line.specs.declared.fault.TraceKind.TheVariants as kinds
use Rattle.gufi_line.specs.declared.fault.TraceError.TheVariants as errors
use Rattle.gufi_trace.specs.declared.writer.WriteTraceFault.{WriteTraceFault}
use Rattle.gufi_trace.specs.declared.writer.WriteTraceFault.TheVariants as unwritten
use Rattle.gufi_users.specs.declared.fault.UserKind.{UserKind}
use Rattle.gufi_users.specs.declared.fault.UserKind.TheVariants as users
use Rattle.gufi_users.specs.declared.fault.UserError.{UserError}
use Rattle.gufi_users.specs.declared.fault.UserError.TheVariants as user_errors
use Rattle.gufi_users.specs.Entries.{PasswdEntry, GroupEntry, UserTables}
use Rattle.gufi_users.specs.Users.{read_passwd, read_group, user_kind_text}
use Rattle.gufi_find.specs.declared.fault.FindError.{FindError}
use Rattle.gufi_find.specs.declared.fault.FindError.TheVariants as find_errors
use Rattle.gufi_find.specs.Faults.{find_kind_text}
use Rattle.gufi_select.specs.declared.fault.SelectError.{SelectError}
use Rattle.gufi_select.specs.declared.fault.SelectError.TheVariants as select_errors
use Rattle.gufi_select.specs.Faults.{select_kind_text}
use Rattle.gufi_select.specs.declared.column.Column.{Column}
use Rattle.gufi_forms.specs.Names.{column_name}
use Rattle.gufi_agg.specs.declared.fault.AggError.{AggError}
use Rattle.gufi_agg.specs.declared.fault.AggError.TheVariants as agg_errors
use Rattle.gufi_agg.specs.Faults.{agg_kind_text}
use Rattle.gufi_words.specs.declared.word.WordError.{WordError}
use Rattle.gufi_words.specs.declared.word.WordError.TheVariants as word_errors
use Rattle.gufi_script.specs.declared.fault.ScriptKind.{ScriptKind}
use Rattle.gufi_script.specs.declared.fault.ScriptKind.TheVariants as scripts
use Rattle.gufi_script.specs.declared.fault.ScriptError.{ScriptError}
use Rattle.gufi_script.specs.declared.fault.ScriptError.TheVariants as script_errors
use Rattle.gufi_script.specs.ScriptText.{PlacedAct, read_script, script_kind_text}
use Rattle.gufi_phases.specs.declared.load.Stop.{Stop}
use Rattle.gufi_phases.specs.declared.load.Stop.TheVariants as stops
use Rattle.gufi_top.specs.declared.index.Indexed.{Indexed}
use Rattle.gufi_trace.specs.TraceText.{trace_means, TraceFailure, of_line, of_tree, failure_text}

-- a status other than 0, and its note
pub record Reason : Type 0 where
  pub status : ℕ
  pub note : List ℕ

abbrev pub reason : ℕ → List ℕ → Reason
reason status text = record { status = status; note = line (codes "gufi: " ++ text) }

-- the word of that number, from 1
abbrev pub word_refused : ℕ → Reason
word_refused k = reason 2 (codes "word " ++ decimal k ++ codes " refused")

-- what no definition gives: a reader's error of memory
abbrev pub no_memory : Reason
no_memory = reason 7 (codes "no memory")

abbrev pub words_reason : WordError → Reason
words_reason (word_errors.Refused k) = word_refused k
words_reason word_errors.Memory = no_memory

abbrev pub not_found : List ℕ → Reason
not_found file = reason 8 (file ++ codes " not found")

abbrev pub past_limit : List ℕ → ℕ → Reason
past_limit file limit = reason 6 (file ++ codes " limit " ++ decimal limit)

abbrev pub line_refused : List ℕ → List ℕ → Reason
line_refused file text = reason 5 (file ++ codes " line " ++ text)

-- a file of whose tree what is asked for can't be made
abbrev pub file_refused : List ℕ → List ℕ → Reason
file_refused file text = reason 5 (file ++ (codes " " ++ text))

-- a fault that is a limit passed has its own status
abbrev pub limit_or : List ℕ → Reason → Option ℕ → Reason
limit_or file other None = other
limit_or file other (Some limit) = past_limit file limit

-- ---- the faults of passwd and group files

abbrev pub user_limit : UserKind → Option ℕ
user_limit users.Fields = None
user_limit users.Number = None
user_limit users.DoubleName = None
user_limit (users.TooMany limit) = Some limit

unfoldable pub user_reason : List ℕ → UserError → Reason
user_reason file (user_errors.Fault number kind) = limit_or file (line_refused file (decimal number ++ codes " " ++ user_kind_text kind)) (user_limit kind)
user_reason file user_errors.Memory = no_memory

-- ---- the faults of a session's script, and of the files of its phases

abbrev pub script_limit : ScriptKind → Option ℕ
script_limit scripts.Escape = None
script_limit scripts.Verb = None
script_limit scripts.Count = None
script_limit scripts.Number = None
script_limit scripts.Lane = None
script_limit scripts.Path = None
script_limit scripts.File = None
script_limit scripts.Form = None
script_limit scripts.User = None
script_limit scripts.Query = None
script_limit (scripts.TooMany limit) = Some limit

unfoldable pub script_reason : List ℕ → ScriptError → Reason
script_reason file (script_errors.Fault number kind) = limit_or file (line_refused file (decimal number ++ codes " " ++ script_kind_text kind)) (script_limit kind)
script_reason file script_errors.Memory = no_memory

-- why a session ends at a file of a phase
abbrev pub stop_reason : Stop → Reason
stop_reason (stops.NoFile file) = not_found file
stop_reason (stops.TooLong file) = past_limit file max_trace

-- ---- a trace's faults

abbrev pub trace_limit : TraceKind → Option ℕ
trace_limit kinds.Short = None
trace_limit kinds.BadPath = None
trace_limit kinds.LongName = None
trace_limit kinds.BadType = None
trace_limit (kinds.BadNumber field) = None
trace_limit kinds.BadXattr = None
trace_limit kinds.BadAcl = None
trace_limit kinds.TooManyEntries = None
trace_limit kinds.NotUnderRoot = None
trace_limit kinds.WrongStanza = None
trace_limit (kinds.TooMany limit) = Some limit
trace_limit kinds.CutLine = None

abbrev pub failure_limit : TraceFailure → Option ℕ
failure_limit (of_line (errors.Fault fault)) = trace_limit fault.kind
failure_limit (of_line errors.Memory) = None
failure_limit (of_tree fault) = None

unfoldable pub trace_reason : List ℕ → TraceFailure → Reason
trace_reason file failure = limit_or file (line_refused file (failure_text failure)) (failure_limit failure)

-- ---- a tree that no trace can tell

abbrev pub unwritten_reason : List ℕ → WriteTraceFault → Reason
unwritten_reason file unwritten.DelimUsed = file_refused file (codes "DelimUsed")
unwritten_reason file unwritten.TooLong = file_refused file (codes "TooLong")
unwritten_reason file unwritten.Memory = no_memory

-- ---- a tree that would be made with a subtree replaced by that of a trace's file

-- which limit a tree passes that is too large
abbrev pub passed_limit : List Directory → ℕ
passed_limit tree = if nat_lt max_dirs (length tree) then max_dirs else max_entries

abbrev pub refresh_reason : List ℕ → List Directory → RefreshFault → Reason
refresh_reason file tree refresh_faults.NotThere = reason 1 (codes "not there")
refresh_reason file tree refresh_faults.TooMany = past_limit file (passed_limit tree)
refresh_reason file tree refresh_faults.TooDeep = file_refused file (codes "TooDeep")
refresh_reason file tree refresh_faults.Memory = no_memory

-- ---- an image's faults

abbrev pub offset_refused : List ℕ → ℕ → List ℕ → Reason
offset_refused file offset text = reason 5 (file ++ (codes " offset " ++ (decimal offset ++ (codes " " ++ text))))

abbrev pub image_limit : ImageKind → Option ℕ
image_limit image_kinds.Magic = None
image_limit image_kinds.Cut = None
image_limit image_kinds.Number = None
image_limit image_kinds.Parent = None
image_limit image_kinds.Name = None
image_limit image_kinds.Order = None
image_limit image_kinds.Trailing = None
image_limit image_kinds.Roll = None
image_limit (image_kinds.TooMany limit) = Some limit

unfoldable pub image_reason : List ℕ → ImageError → Reason
image_reason file (image_errors.Fault offset kind) = limit_or file (offset_refused file offset (image_kind_text kind)) (image_limit kind)
image_reason file image_errors.Memory = no_memory

-- ---- the words of an expression, which come after the word START

abbrev pub word_fault : ℕ → List ℕ → Reason
word_fault k text = reason 2 (codes "word " ++ (decimal k ++ codes " " ++ text))

abbrev pub find_reason : ℕ → FindError → Reason
find_reason user_at (find_errors.Fault word kind) = word_fault (capped_number (user_at + 1 + word)) (find_kind_text kind)
find_reason user_at find_errors.Memory = no_memory

-- ---- the text of a query or an agg, which is the word after START, and an offset in it

abbrev pub text_fault : ℕ → ℕ → List ℕ → Reason
text_fault k offset text = reason 2 (codes "word " ++ (decimal k ++ (codes " at " ++ (decimal offset ++ (codes " " ++ text)))))

abbrev pub select_reason : ℕ → SelectError → Reason
select_reason user_at (select_errors.Fault offset kind) = text_fault (capped_number (user_at + 2)) offset (select_kind_text kind)
select_reason user_at select_errors.Memory = no_memory

-- a column that stands twice, where each has to be a member of one object
abbrev pub column_twice : ℕ → Column → Reason
column_twice user_at column = word_fault (capped_number (user_at + 2)) (codes "Twice " ++ column_name column)

abbrev pub agg_reason : ℕ → AggError → Reason
agg_reason user_at (agg_errors.Fault offset kind) = text_fault (capped_number (user_at + 2)) offset (agg_kind_text kind)
agg_reason user_at agg_errors.Memory = no_memory

-- ---- a start that can't be walked from

abbrev pub start_refused : Refusal → Reason
start_refused refusal = reason 1 (refusal_text refusal)

abbrev pub start_reason : Refusal → Reason
start_reason (refusals.Denied depth class) = start_refused (refusals.Denied depth class)
start_reason (refusals.NoSuch depth) = start_refused (refusals.NoSuch depth)
start_reason (refusals.NotDir depth) = start_refused (refusals.NotDir depth)
start_reason refusals.Memory = no_memory

-- ---- files

abbrev pub held : Files → List ℕ → Result (List ℕ) Reason
held files file = ok_or (files file) (not_found file)

abbrev pub file_within : List ℕ → ℕ → List ℕ → Result (List ℕ) Reason
file_within file limit bytes = refuse (nat_lt limit (length bytes)) (past_limit file limit) >> Ok bytes

-- the bytes of a file that the words name, which are at most so many
unfoldable pub file_in : ℕ → List ℕ → Files → Result (List ℕ) Reason
file_in limit file files = held files file >>= λ bytes. file_within file limit bytes

-- how many files are named, where one may be
abbrev pub named_count : Option (List ℕ) → ℕ
named_count None = 0
named_count (Some file) = 1

-- a file that isn't named stands for an empty one
unfoldable pub optional_file : Option (List ℕ) → Files → Result (List ℕ) Reason
optional_file None files = Ok []
optional_file (Some file) files = file_in max_users file files

-- the rows of the two files of users, each read whole before the next
abbrev pub passwd_within : Option (List ℕ) → List ℕ → Result (List PasswdEntry) Reason
passwd_within passwd bytes = result_map_err (user_reason (unwrap_or passwd [])) (read_passwd bytes)

abbrev pub group_within : Option (List ℕ) → List ℕ → Result (List GroupEntry) Reason
group_within group bytes = result_map_err (user_reason (unwrap_or group [])) (read_group bytes)

unfoldable pub passwd_in : Option (List ℕ) → Files → Result (List PasswdEntry) Reason
passwd_in passwd files = optional_file passwd files >>= passwd_within passwd

unfoldable pub group_in : Option (List ℕ) → Files → Result (List GroupEntry) Reason
group_in group files = optional_file group files >>= group_within group

abbrev pub tables_with : List PasswdEntry → List GroupEntry → Result UserTables Reason
tables_with users groups = Ok (record { users = users; groups = groups })

unfoldable pub tables_beside : List PasswdEntry → Option (List ℕ) → Files → Result UserTables Reason
tables_beside users group files = group_in group files >>= tables_with users

unfoldable pub tables_in : Option (List ℕ) → Option (List ℕ) → Files → Result UserTables Reason
tables_in passwd group files = passwd_in passwd files >>= λ users. tables_beside users group files

-- the acts of a script, each with its line
abbrev pub acts_within : List ℕ → List ℕ → Result (List PlacedAct) Reason
acts_within script bytes = result_map_err (script_reason script) (read_script bytes)

unfoldable pub acts_in : List ℕ → Files → Result (List PlacedAct) Reason
acts_in script files = file_in max_script script files >>= acts_within script

-- the tree that the bytes of a trace mean
unfoldable pub tree_within : ℕ → List ℕ → List ℕ → Result (List Directory) Reason
tree_within delim file bytes = result_map_err (trace_reason file) (trace_means delim bytes)

unfoldable pub trace_in : ℕ → List ℕ → Files → Result (List Directory) Reason
trace_in delim file files = file_in max_trace file files >>= tree_within delim file

-- ---- an index's file, which is an image or a trace

-- a trace's tree, rolled up under a limit
abbrev pub rolled_under : ℕ → List Directory → Result Snap Reason
rolled_under limit tree = Ok (record { tree = tree; limit = limit })

unfoldable pub traced_in : ℕ → ℕ → List ℕ → Files → Result Snap Reason
traced_in delim limit file files = trace_in delim file files >>= rolled_under limit

-- an image's tree, and the limit that it holds
unfoldable pub image_within : List ℕ → List ℕ → Result Snap Reason
image_within file bytes = result_map_err (image_reason file) (image_means bytes)

unfoldable pub image_in : List ℕ → Files → Result Snap Reason
image_in file files = file_in max_image file files >>= image_within file

-- the first bytes tell
unfoldable pub is_image : List ℕ → Bool
is_image bytes = starts_with nat_eq bytes magic

abbrev pub index_by : Bool → ℕ → ℕ → List ℕ → Files → Result Snap Reason
index_by true delim limit = image_in
index_by false delim limit = traced_in delim limit

-- the limit is that of a trace's roll-up; an image keeps its own
unfoldable pub index_in : ℕ → ℕ → List ℕ → Files → Result Snap Reason
index_in delim limit file files = held files file >>= λ bytes. index_by (is_image bytes) delim limit file files

-- the same, whether the file is an image, and how many bytes it has
unfoldable pub told_in : ℕ → ℕ → List ℕ → Files → Result Indexed Reason
told_in delim limit file files = held files file >>= λ bytes. index_in delim limit file files >>= λ snap. Ok (record { image = is_image bytes; bytes = length bytes; snap = snap })
