-- What the words and the files come to: a reason with its status and note, a text, or the run of a session.
use Rattle.std.specs.Prelude.{◌≡◌, ℕ, ◌+◌, ℤ, min, Bool, true, false, List, [], ◌∷◌, ◌++◌, Option, Some, None, ok_or, Result, Ok, Err, if◌then◌else◌, codes}
use Rattle.gufi_io.specs.Files.{Files}
use Rattle.gufi_base.specs.Basics.{◌>>=◌, result_map_err}
use Rattle.gufi_base.specs.declared.record.Row.{Row}
use Rattle.gufi_base.specs.Paths.{Components}
use Rattle.gufi_access.specs.declared.class.Principal.{Principal}
use Rattle.gufi_access.specs.Access.{principal}
use Rattle.gufi_tree.specs.Tree.{Directory}
use Rattle.gufi_tree.specs.Graft.{graft}
use Rattle.gufi_snap.specs.Snap.{Snap}
use Rattle.gufi_snap.specs.Refreshed.{refreshed}
use Rattle.gufi_users.specs.Entries.{UserTables}
use Rattle.gufi_users.specs.Users.{principal_of}
use Rattle.gufi_find.specs.Expressions.{Find}
use Rattle.gufi_find.specs.Reading.{read_find}
use Rattle.gufi_select.specs.declared.column.Column.{Column}
use Rattle.gufi_select.specs.Columns.{Select}
use Rattle.gufi_select.specs.Reading.{read_select}
use Rattle.gufi_agg.specs.Aggs.{Agg}
use Rattle.gufi_agg.specs.Reading.{read_agg}
use Rattle.gufi_forms.specs.declared.form.Form.{Form}
use Rattle.gufi_forms.specs.declared.form.Form.TheVariants.{Lines, Json}
use Rattle.gufi_forms.specs.Names.{first_twice}
use Rattle.gufi_stats.specs.declared.report.Report.{Report}
use Rattle.gufi_stats.specs.declared.report.Report.TheVariants as reports
use Rattle.gufi_gen.specs.Generated.{gen_text}
use Rattle.gufi_roll.specs.CanRoll.{roll_flags, roll_report, report_text}
use Rattle.gufi_trace.specs.TraceWriting.{written_trace}
use Rattle.gufi_image.specs.Image.{image_text}
use Rattle.gufi_info.specs.Info.{info_text}
use Rattle.gufi_walk.specs.declared.refusal.Refusal.{Refusal}
use Rattle.gufi_walk.specs.Answer.{reply_rows}
use Rattle.gufi_diff.specs.Changes.{diff_lines}
use Rattle.gufi_script.specs.ScriptText.{PlacedAct}
use Rattle.gufi_plan.specs.Plan.{Setting, Plan, plan}
use Rattle.gufi_words.specs.CommandWords.{read_words}
use Rattle.gufi_words.specs.declared.command.ReportWord.{ReportWord}
use Rattle.gufi_words.specs.declared.command.ReportWord.TheVariants as report_words
use Rattle.gufi_words.specs.declared.command.Common.{Common}
use Rattle.gufi_words.specs.declared.command.Command.{Command}
use Rattle.gufi_words.specs.declared.command.Command.TheVariants as commands
use Rattle.gufi_top.specs.Reasons.{Reason, word_refused, words_reason, find_reason, select_reason, column_twice, agg_reason, script_reason, start_reason, unwritten_reason, refresh_reason, named_count, tables_in, acts_in, trace_in, tree_within, index_in, told_in}
use Rattle.gufi_ask.specs.Asks.{Ask, walk_ask, find_ask, usage_ask, ls_ask, stat_ask, stats_ask, total_ask, query_ask, agg_ask, ask_reply}

-- what goes to the output, and the note of status 0
pub record Written : Type 0 where
  pub out : List ℕ
  pub notes : List ℕ

-- a text, or the run of a plan over the files, and how many of its last replies each lane keeps
pub data Verdict : Type 0 where
  writes : Written → Verdict
  runs : Files → Plan → ℕ → Verdict

abbrev pub writes_only : List ℕ → Result Verdict Reason
writes_only text = Ok (writes (record { out = text; notes = [] }))

-- what a reply writes
abbrev pub replied : Result (List ℕ) Refusal → Result Verdict Reason
replied reply = result_map_err start_reason reply >>= writes_only

-- the text of an ask over a tree
unfoldable pub asked : List Directory → Principal → Components → Ask → Result Verdict Reason
asked tree who start ask = replied (ask_reply tree who start ask)

-- the same where the query words may be refused
abbrev pub asked_if : List Directory → Principal → Components → Result Ask Reason → Result Verdict Reason
asked_if tree who start ask = ask >>= asked tree who start

-- ---- walk: from the root, for a principal in numbers

unfoldable pub walk_over : List ℕ → Principal → ℕ → Files → Result Verdict Reason
walk_over trace who delim files = trace_in delim trace files >>= λ tree. asked tree who [] walk_ask

-- ---- what a command with a USER and a START asks of one index

-- the principal of the word USER
unfoldable pub user_in : Common → UserTables → Result Principal Reason
user_in common tables = ok_or (principal_of tables common.user) (word_refused common.user_at)

-- what a command asks where these are the users, or the reason of its query words
abbrev pub Asking : Type 0
Asking = UserTables → Result Ask Reason

-- USER is judged behind the files, and the query words behind USER; the answer is that of the tree, whatever the limit
abbrev pub asked_by : Common → Asking → UserTables → Snap → Result Verdict Reason
asked_by common asking tables snap = user_in common tables >>= λ who. asked_if snap.tree who common.start (asking tables)

unfoldable pub index_over : Common → Asking → UserTables → Files → Result Verdict Reason
index_over common asking tables files = index_in common.delim common.limit common.index files >>= asked_by common asking tables

unfoldable pub ask_over : Common → Asking → Files → Result Verdict Reason
ask_over common asking files = tables_in common.passwd common.group files >>= λ tables. index_over common asking tables files

abbrev pub stat_asking : Asking
stat_asking tables = Ok stat_ask

-- the words of an expression, judged with the users; a fault tells the number of its word, where the expression begins two words behind that of this number
abbrev pub expression_in : ℕ → Option ℤ → List (List ℕ) → UserTables → Result Find Reason
expression_in before now words tables = result_map_err (find_reason before) (read_find words tables now)

abbrev pub find_asking : ℕ → Option ℤ → Option (List ℕ) → List (List ℕ) → Asking
find_asking user_at now prefix words tables = expression_in user_at now words tables >>= λ expression. Ok (find_ask prefix expression)

-- START and DEPTH stand between USER and the expression
abbrev pub usage_asking : ℕ → Option ℤ → ℕ → List (List ℕ) → Asking
usage_asking before now depth words tables = expression_in before now words tables >>= λ expression. Ok (usage_ask depth expression)

abbrev pub ls_asking : Bool → Bool → Asking
ls_asking long all tables = Ok (ls_ask tables long all)

abbrev pub report_of : ReportWord → Report
report_of report_words.Levels = reports.Levels
report_of report_words.Uids = reports.Uids
report_of report_words.Gids = reports.Gids
report_of report_words.Leaves = reports.Leaves

-- the users, where owners and groups are to be named
abbrev pub named_by : Bool → UserTables → Option UserTables
named_by names tables = if names then Some tables else None

abbrev pub stats_asking : Bool → Report → Asking
stats_asking names report tables = Ok (stats_ask (named_by names tables) report)

-- the form of a query's rows, by its options
abbrev pub form_of : Bool → Bool → Bool → Form
form_of escape header json = if json then Json else Lines escape header

-- a column that is named twice, where each has to be a member of one object
abbrev pub twice_in : Form → Select → Option Column
twice_in (Lines escape header) select = None
twice_in Json select = first_twice select.columns

abbrev pub unless_twice : ℕ → Select → Option Column → Result Select Reason
unless_twice user_at select None = Ok select
unless_twice user_at select (Some column) = Err (column_twice user_at column)

abbrev pub written_in : ℕ → Form → Select → Result Select Reason
written_in user_at form select = unless_twice user_at select (twice_in form select)

-- the text of a query that is to be answered in a form, in which no users play a part
abbrev pub select_in : ℕ → Form → List ℕ → Result Select Reason
select_in user_at form text = result_map_err (select_reason user_at) (read_select text) >>= written_in user_at form

abbrev pub query_asked : ℕ → Form → List ℕ → Result Ask Reason
query_asked user_at form text = select_in user_at form text >>= λ select. Ok (query_ask form select)

abbrev pub query_asking : ℕ → Form → List ℕ → Asking
query_asking user_at form text tables = query_asked user_at form text

-- the text of an agg, in which no users play a part either
abbrev pub agg_in : ℕ → List ℕ → Result Agg Reason
agg_in user_at text = result_map_err (agg_reason user_at) (read_agg text)

abbrev pub agg_asking : ℕ → Bool → List ℕ → Asking
agg_asking user_at names text tables = agg_in user_at text >>= λ agg. Ok (agg_ask (named_by names tables) agg)

-- ---- trace2index: the image of a trace's tree, of which nothing is rolled up

unfoldable pub trace2index_over : List ℕ → ℕ → Files → Result Verdict Reason
trace2index_over trace delim files = trace_in delim trace files >>= λ tree. writes_only (image_text tree 0)

-- ---- rollup: the image of an index under a limit, and its report as a note

abbrev pub rolled_up : ℕ → List Directory → Result Verdict Reason
rolled_up limit tree = Ok (writes (record { out = image_text tree limit; notes = report_text (roll_report tree (roll_flags tree limit)) }))

unfoldable pub rollup_over : List ℕ → ℕ → ℕ → Files → Result Verdict Reason
rollup_over index delim limit files = index_in delim limit index files >>= λ snap. rolled_up limit snap.tree

-- ---- index2trace: the trace of an index's tree, whose root is written as /

abbrev pub trace_written : List ℕ → ℕ → List Directory → Result Verdict Reason
trace_written index delim tree = result_map_err (unwritten_reason index) (written_trace tree [] delim) >>= writes_only

unfoldable pub index2trace_over : List ℕ → ℕ → Files → Result Verdict Reason
index2trace_over index delim files = index_in delim 0 index files >>= λ snap. trace_written index delim snap.tree

-- ---- refresh: the image of an index under a limit, of which the directory at a path, with all below it, is replaced by a trace's tree

-- the limit that the snapshot had plays no part
abbrev pub refreshed_image : List ℕ → ℕ → Components → Snap → List Directory → Result Verdict Reason
refreshed_image trace limit path snap part =
    result_map_err (refresh_reason trace (graft snap.tree path part)) (refreshed snap path part) >>= λ after. writes_only (image_text after.tree limit)

unfoldable pub refresh_by : ℕ → ℕ → Components → List ℕ → Snap → Files → Result Verdict Reason
refresh_by delim limit path trace snap files = trace_in delim trace files >>= refreshed_image trace limit path snap

-- the index is judged before the trace, and the place behind both
unfoldable pub refresh_over : List ℕ → ℕ → ℕ → Components → List ℕ → Files → Result Verdict Reason
refresh_over index delim limit path trace files = index_in delim limit index files >>= λ snap. refresh_by delim limit path trace snap files

-- ---- info: what an index holds

unfoldable pub info_over : List ℕ → ℕ → ℕ → Files → Result Verdict Reason
info_over index delim limit files = told_in delim limit index files >>= λ indexed. writes_only (info_text indexed.image indexed.bytes indexed.snap.tree indexed.snap.limit)

-- ---- diff: what changed from one index to another of the rows that USER lists from START

-- the rows that a principal lists from a start, as they are shown to him, or the refusal of the start
abbrev pub listed_for : List Directory → Principal → Components → Result (List Row) Reason
listed_for tree who start = result_map_err start_reason (reply_rows tree who start (λ row depth. true))

-- USER is judged behind the file
abbrev pub listed_by : Common → UserTables → Snap → Result (List Row) Reason
listed_by common tables snap = user_in common tables >>= λ who. listed_for snap.tree who common.start

unfoldable pub listed_in : Common → UserTables → List ℕ → Files → Result (List Row) Reason
listed_in common tables index files = index_in common.delim common.limit index files >>= listed_by common tables

-- the new index, where the rows of the old one are known
unfoldable pub diff_from : List Row → Common → UserTables → Files → Result Verdict Reason
diff_from old common tables files = listed_in common tables common.index files >>= λ new. writes_only (diff_lines old new)

-- the old index is judged, and the start in it, before the new one
unfoldable pub diff_by : List ℕ → Common → UserTables → Files → Result Verdict Reason
diff_by old common tables files = listed_in common tables old files >>= λ rows. diff_from rows common tables files

unfoldable pub diff_over : List ℕ → Common → Files → Result Verdict Reason
diff_over old common files = tables_in common.passwd common.group files >>= λ tables. diff_by old common tables files

-- ---- session: the phases of a script, whose users and queries are judged, in line order, behind its own faults

abbrev pub plan_with : Setting → List ℕ → List PlacedAct → Result Plan Reason
plan_with setting script acts = result_map_err (script_reason script) (plan setting acts)

unfoldable pub script_plan : Setting → List ℕ → Files → Result Plan Reason
script_plan setting script files = acts_in script files >>= plan_with setting script

unfoldable pub session_plan : Option (List ℕ) → Option (List ℕ) → ℕ → Option ℤ → List ℕ → Files → Result Plan Reason
session_plan passwd group delim now script files =
    tables_in passwd group files >>= λ tables. script_plan (record { tables = tables; now = now; delim = delim }) script files

-- how many replies a lane keeps at most; the words name no more
abbrev pub max_cache : ℕ
max_cache = 256

abbrev pub run_over : ℕ → Plan → Files → Result Verdict Reason
run_over cache planned files = Ok (runs files planned cache)

unfoldable pub session_over : Option (List ℕ) → Option (List ℕ) → ℕ → Option ℤ → ℕ → List ℕ → Files → Result Verdict Reason
session_over passwd group delim now cache script files = session_plan passwd group delim now script files >>= λ planned. run_over cache planned files

-- ---- gen: the trace of n directories, or what a run over it comes to

-- the total of all that a principal lists, behind his name
abbrev pub total_for : List Directory → List ℕ → Principal → Result (List ℕ) Refusal
total_for tree name who = ask_reply tree who [] (total_ask name)

-- the report of the roll-up under the limit 1,000, and the totals of three principals
unfoldable pub summary_of : List Directory → Result (List ℕ) Refusal
summary_of tree =
    total_for tree (codes "0") (principal 0 []) >>= λ first.
    total_for tree (codes "1001:101") (principal 1001 (101 ∷ [])) >>= λ second.
    total_for tree (codes "1002") (principal 1002 []) >>= λ third.
    Ok (report_text (roll_report tree (roll_flags tree 1000)) ++ (first ++ (second ++ third)))

-- the tree of a generated trace, as of a file `gen`
abbrev pub generated_tree : ℕ → ℕ → Result (List Directory) Reason
generated_tree n delim = tree_within delim (codes "gen") (gen_text n delim)

unfoldable pub summary_over : ℕ → ℕ → Result Verdict Reason
summary_over n delim = generated_tree n delim >>= λ tree. replied (summary_of tree)

-- no file plays a part
abbrev pub gen_verdict : ℕ → ℕ → Bool → Result Verdict Reason
gen_verdict n delim summary = if summary then summary_over n delim else writes_only (gen_text n delim)

abbrev pub gen_over : ℕ → ℕ → Bool → Files → Result Verdict Reason
gen_over n delim summary files = gen_verdict n delim summary

-- ---- each command

unfoldable pub command_over : Command → Files → Result Verdict Reason
command_over (commands.Walk trace uid gids delim) = walk_over trace (principal uid gids) delim
command_over (commands.Trace2index trace delim) = trace2index_over trace delim
command_over (commands.Rollup index delim limit) = rollup_over index delim limit
command_over (commands.Index2trace index delim) = index2trace_over index delim
command_over (commands.Info index delim limit) = info_over index delim limit
command_over (commands.Refresh index delim limit path trace) = refresh_over index delim limit path trace
command_over (commands.Query common escape header json text) = ask_over common (query_asking common.user_at (form_of escape header json) text)
command_over (commands.Agg common names text) = ask_over common (agg_asking common.user_at names text)
command_over (commands.Find common now prefix words) = ask_over common (find_asking common.user_at now prefix words)
command_over (commands.Du common now depth words) = ask_over common (usage_asking (common.user_at + 1) now depth words)
command_over (commands.Ls common long all) = ask_over common (ls_asking long all)
command_over (commands.Stat common) = ask_over common stat_asking
command_over (commands.Stats common names report) = ask_over common (stats_asking names (report_of report))
command_over (commands.Diff old common) = diff_over old common
command_over (commands.Session passwd group delim workers now cache script) = session_over passwd group delim now (min cache max_cache) script
command_over (commands.Gen n delim workers summary) = gen_over n delim summary

-- a command whose whole text is made before it is written
abbrev pub is_one_shot : Command → Bool
is_one_shot (commands.Walk trace uid gids delim) = true
is_one_shot (commands.Trace2index trace delim) = true
is_one_shot (commands.Rollup index delim limit) = true
is_one_shot (commands.Index2trace index delim) = true
is_one_shot (commands.Info index delim limit) = true
is_one_shot (commands.Refresh index delim limit path trace) = true
is_one_shot (commands.Query common escape header json text) = true
is_one_shot (commands.Agg common names text) = true
is_one_shot (commands.Find common now prefix words) = true
is_one_shot (commands.Du common now depth words) = true
is_one_shot (commands.Ls common long all) = true
is_one_shot (commands.Stat common) = true
is_one_shot (commands.Stats common names report) = true
is_one_shot (commands.Diff old common) = true
is_one_shot (commands.Session passwd group delim workers now cache script) = false
is_one_shot (commands.Gen n delim workers summary) = true

-- how many files are opened ahead of those that a session's script names: of users, and the script
abbrev pub files_ahead : Command → ℕ
files_ahead (commands.Session passwd group delim workers now cache script) = named_count passwd + (named_count group + 1)
files_ahead command = 0

-- ---- the verdict

unfoldable pub command_in : List (List ℕ) → Result Command Reason
command_in words = result_map_err words_reason (read_words words)

-- the first refusal in the order of words, files, query words and start; or what is written
unfoldable pub verdict : List (List ℕ) → Files → Result Verdict Reason
verdict words files = command_in words >>= λ command. command_over command files

-- ---- refusals of the words, whatever the files

-- what it may be refused for: with some users and some tree
abbrev pub AskMayRefuse : Common → Asking → Reason → Type 0
AskMayRefuse common asking why = (tables : UserTables) × (snap : Snap) × (asked_by common asking tables snap ≡ Err why)

-- the same of a command that compares two indexes, of which USER is judged behind the first
abbrev pub DiffMayRefuse : Common → Reason → Type 0
DiffMayRefuse common why = (tables : UserTables) × (snap : Snap) × (listed_by common tables snap ≡ Err why)

-- Only words that are judged behind the files may be refused of a command: its USER, the text of its query and the words of its expression.
abbrev pub MayRefuse : Command → Reason → Type 0
MayRefuse (commands.Walk trace uid gids delim) why = ⊥
MayRefuse (commands.Trace2index trace delim) why = ⊥
MayRefuse (commands.Rollup index delim limit) why = ⊥
MayRefuse (commands.Index2trace index delim) why = ⊥
MayRefuse (commands.Info index delim limit) why = ⊥
MayRefuse (commands.Refresh index delim limit path trace) why = ⊥
MayRefuse (commands.Query common escape header json text) why = AskMayRefuse common (query_asking common.user_at (form_of escape header json) text) why
MayRefuse (commands.Agg common names text) why = AskMayRefuse common (agg_asking common.user_at names text) why
MayRefuse (commands.Find common now prefix words) why = AskMayRefuse common (find_asking common.user_at now prefix words) why
MayRefuse (commands.Du common now depth words) why = AskMayRefuse common (usage_asking (common.user_at + 1) now depth words) why
MayRefuse (commands.Ls common long all) why = AskMayRefuse common (ls_asking long all) why
MayRefuse (commands.Stat common) why = AskMayRefuse common stat_asking why
MayRefuse (commands.Stats common names report) why = AskMayRefuse common (stats_asking names (report_of report)) why
MayRefuse (commands.Diff old common) why = DiffMayRefuse common why
MayRefuse (commands.Session passwd group delim workers now cache script) why = ⊥
MayRefuse (commands.Gen n delim workers summary) why = ⊥

abbrev pub MayRefuseRead : Result Command Reason → Reason → Type 0
MayRefuseRead (Ok command) why = MayRefuse command why
MayRefuseRead (Err refusal) why = refusal ≡ why

-- The words may be refused so: they are no command, or one that may be.
abbrev pub MayRefuseWords : List (List ℕ) → Reason → Type 0
MayRefuseWords words why = MayRefuseRead (command_in words) why

-- The words are no session's: their text is made whole before it is written, or they are refused.
abbrev pub is_one_shot_read : Result Command Reason → Bool
is_one_shot_read (Ok command) = is_one_shot command
is_one_shot_read (Err why) = true

abbrev pub are_one_shot : List (List ℕ) → Bool
are_one_shot words = is_one_shot_read (command_in words)

abbrev pub files_ahead_read : Result Command Reason → ℕ
files_ahead_read (Ok command) = files_ahead command
files_ahead_read (Err why) = 0

abbrev pub files_ahead_of : List (List ℕ) → ℕ
files_ahead_of words = files_ahead_read (command_in words)
