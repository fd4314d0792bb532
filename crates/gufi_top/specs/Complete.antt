-- What leaves a run nothing to refuse, and how it ends then.
use Rattle.std.specs.Prelude.{◌≡◌, ◌+◌, ◌≤◌, ◌⊎◌, ℕ, not, IsTrue, List, [], is_ok, ⊤, Some, None, Result, Ok, Err}
use Rattle.gufi_io.specs.Causes.{Rose}
use Rattle.gufi_io.specs.Files.{Files}
use Rattle.gufi_io.specs.declared.shelf.Shelf.{Ghosts as ShelfOf}
use Rattle.gufi_io.specs.declared.sink.Sink.{Ghosts as SinkOf}
use Rattle.gufi_base.specs.Delimiters.{may_delimit}
use Rattle.gufi_access.specs.declared.class.Principal.{Principal}
use Rattle.gufi_access.specs.Access.{principal}
use Rattle.gufi_base.specs.Paths.{Components}
use Rattle.gufi_tree.specs.Tree.{Directory, has_dir, is_too_large}
use Rattle.gufi_tree.specs.Graft.{graft, is_too_deep}
use Rattle.gufi_tree.specs.Resolve.{resolve, is_found}
use Rattle.gufi_snap.specs.Snap.{Snap}
use Rattle.gufi_trace.specs.TraceWriting.{written_trace}
use Rattle.gufi_users.specs.Entries.{UserTables}
use Rattle.gufi_users.specs.Users.{principal_of}
use Rattle.gufi_plan.specs.Plan.{Plan}
use Rattle.gufi_session.specs.Run.{run_of}
use Rattle.gufi_words.specs.CommandWords.{read_words}
use Rattle.gufi_words.specs.declared.command.Common.{Common}
use Rattle.gufi_words.specs.declared.command.Command.{Command}
use Rattle.gufi_words.specs.declared.command.Command.TheVariants as commands
use Rattle.gufi_top.specs.Reasons.{Reason, tables_in, trace_in, index_in}
use Rattle.gufi_ask.specs.Asks.{Ask}
use Rattle.gufi_top.specs.Verdict.{Verdict, writes, runs, Asking, stat_asking, find_asking, usage_asking, ls_asking, stats_asking, report_of, form_of, query_asking, agg_asking, session_plan, verdict}
use Rattle.gufi_top.specs.Ends.{EndedBy}

-- ---- of the words and the files

-- The files are there, well-formed and within their limits, USER is one of the users, the query words are an ask, whose patterns are
-- taken, and the start is found.
pub record AskIsAnswerable (common : Common) (asking : Asking) (files : Files) : Type 0 where
  pub tables : UserTables
  pub snap : Snap
  pub who : Principal
  pub ask : Ask
  pub users : tables_in common.passwd common.group files ≡ Ok tables
  pub index : index_in common.delim common.limit common.index files ≡ Ok snap
  pub user : principal_of tables common.user ≡ Some who
  pub words : asking tables ≡ Ok ask
  pub found : IsTrue (is_found (resolve snap.tree who common.start))

-- the same of a walk, which has its principal in numbers
abbrev pub WalkIsAnswerable : List ℕ → Principal → ℕ → Files → Type 0
WalkIsAnswerable trace who delim files = (tree : List Directory) × (trace_in delim trace files ≡ Ok tree) × IsTrue (is_found (resolve tree who []))

-- The index is there, well-formed and within its limits, its tree's names, links and lists don't hold the delimiter, and no path is too long.
abbrev pub TraceIsAnswerable : List ℕ → ℕ → Files → Type 0
TraceIsAnswerable index delim files = (snap : Snap) × (index_in delim 0 index files ≡ Ok snap) × IsTrue (is_ok (written_trace snap.tree [] delim))

-- The index and the trace are there, well-formed and within their limits, the path is a directory of the index, and the tree with the
-- trace's in its place is neither too large nor too deep.
pub record RefreshIsAnswerable (index : List ℕ) (delim limit : ℕ) (path : Components) (trace : List ℕ) (files : Files) : Type 0 where
  pub snap : Snap
  pub part : List Directory
  pub indexed : index_in delim limit index files ≡ Ok snap
  pub traced : trace_in delim trace files ≡ Ok part
  pub there : IsTrue (has_dir snap.tree path)
  pub few : IsTrue (not (is_too_large (graft snap.tree path part)))
  pub short : IsTrue (not (is_too_deep (graft snap.tree path part)))

-- The files are there, well-formed and within their limits, USER is one of the users, and the start is found in both indexes.
pub record DiffIsAnswerable (old : List ℕ) (common : Common) (files : Files) : Type 0 where
  pub tables : UserTables
  pub before : Snap
  pub after : Snap
  pub who : Principal
  pub users : tables_in common.passwd common.group files ≡ Ok tables
  pub first : index_in common.delim common.limit old files ≡ Ok before
  pub second : index_in common.delim common.limit common.index files ≡ Ok after
  pub user : principal_of tables common.user ≡ Some who
  pub found : IsTrue (is_found (resolve before.tree who common.start))
  pub found_again : IsTrue (is_found (resolve after.tree who common.start))

-- A session's users and script are there and well-formed, and so is each user and query of the script; no phase lacks a file or has
-- too long ones. A damaged trace is a line of its text.
abbrev pub SessionIsAnswerable : Files → Result Plan Reason → Type 0
SessionIsAnswerable files planned = (plan : Plan) × (planned ≡ Ok plan) × ((run_of files plan).stop ≡ None)

abbrev pub IsAnswerable : Command → Files → Type 0
IsAnswerable (commands.Walk trace uid gids delim) files = WalkIsAnswerable trace (principal uid gids) delim files
IsAnswerable (commands.Trace2index trace delim) files = IsTrue (is_ok (trace_in delim trace files))
IsAnswerable (commands.Rollup index delim limit) files = IsTrue (is_ok (index_in delim limit index files))
IsAnswerable (commands.Index2trace index delim) files = TraceIsAnswerable index delim files
IsAnswerable (commands.Info index delim limit) files = IsTrue (is_ok (index_in delim limit index files))
IsAnswerable (commands.Refresh index delim limit path trace) files = RefreshIsAnswerable index delim limit path trace files
IsAnswerable (commands.Query common escape header json text) files = AskIsAnswerable common (query_asking common.user_at (form_of escape header json) text) files
IsAnswerable (commands.Agg common names text) files = AskIsAnswerable common (agg_asking common.user_at names text) files
IsAnswerable (commands.Find common now prefix words) files = AskIsAnswerable common (find_asking common.user_at now prefix words) files
IsAnswerable (commands.Du common now depth words) files = AskIsAnswerable common (usage_asking (common.user_at + 1) now depth words) files
IsAnswerable (commands.Ls common long all) files = AskIsAnswerable common (ls_asking long all) files
IsAnswerable (commands.Stat common) files = AskIsAnswerable common stat_asking files
IsAnswerable (commands.Stats common names report) files = AskIsAnswerable common (stats_asking names (report_of report)) files
IsAnswerable (commands.Diff old common) files = DiffIsAnswerable old common files
IsAnswerable (commands.Session passwd group delim workers now cache script) files = SessionIsAnswerable files (session_plan passwd group delim now script files)
IsAnswerable (commands.Gen n delim workers summary) files = (1 ≤ n) × (n ≤ 200000) × IsTrue (may_delimit delim)

-- ---- of the verdict

-- the verdict is a whole text, or a session that no file ends
abbrev pub IsAnswered : Result Verdict Reason → Type 0
IsAnswered (Err why) = ⊥
IsAnswered (Ok (writes whole)) = ⊤
IsAnswered (Ok (runs files plan cache)) = (run_of files plan).stop ≡ None

-- ---- of the run

-- Where the words are a command that the files let it answer, and no count of faults rose: status 0 with the whole text, or want of memory.
abbrev pub Completes : {F K : Type 0} → ShelfOf F → SinkOf K → List (List ℕ) → ℕ → List ℕ → F → F → K → K → K → K → Type 0
Completes shelf sink words status numbers before after out out' notes notes' = (files : Files) (command : Command)
    → shelf.files before ≡ Some files → read_words words ≡ Ok command → IsAnswerable command files
    → ¬ Rose (shelf.faults before) (shelf.faults after) → ¬ Rose (sink.faults out) (sink.faults out') → ¬ Rose (sink.faults notes) (sink.faults notes')
    → ((status ≡ 0) × EndedBy sink (Some (verdict words files)) status numbers out out' notes notes') ⊎ (status ≡ 7)
