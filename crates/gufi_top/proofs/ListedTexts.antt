-- What `walk`, `find` and the other asks write where nothing is refused.
use Rattle.std.proofs.Common.{◌≡◌, ℕ, ℤ, true, List, [], ◌∷◌, refl, ap, ◌∙◌}
use Rattle.std.specs.Prelude.{Option, Some, None, Result, Ok, ok_or, filter}
use Rattle.gufi_base.specs.declared.record.Row.{Row}
use Rattle.gufi_base.specs.Basics.{◌>>=◌, result_map_err}
use Rattle.gufi_base.specs.Paths.{Components}
use Rattle.gufi_rows.specs.PathLines.{path_lines}
use Rattle.gufi_access.specs.declared.class.Principal.{Principal}
use Rattle.gufi_access.specs.Access.{principal}
use Rattle.gufi_tree.specs.Tree.{Directory}
use Rattle.gufi_tree.specs.Resolve.{resolve, is_found}
use Rattle.gufi_snap.specs.Snap.{Snap}
use Rattle.gufi_users.specs.Entries.{UserTables}
use Rattle.gufi_users.specs.Users.{principal_of}
use Rattle.gufi_find.specs.Expressions.{Find, find_holds}
use Rattle.gufi_find.specs.Reading.{read_find}
use Rattle.gufi_find.specs.declared.fault.FindError.{FindError}
use Rattle.gufi_words.specs.declared.word.WordError.{WordError}
use Rattle.gufi_words.specs.CommandWords.{read_words}
use Rattle.gufi_words.specs.declared.command.Common.{Common}
use Rattle.gufi_words.specs.declared.command.Command.{Command}
use Rattle.gufi_words.specs.declared.command.Command.TheVariants as commands
use Rattle.gufi_io.specs.Files.{Files}
use Rattle.gufi_walk.specs.Answer.{answer, listed_rows}
use Rattle.gufi_ask.specs.Asks.{Ask, walk_ask, find_ask, found_lines, ask_holds, ask_text}
use Rattle.gufi_top.specs.Reasons.{Reason, word_refused, words_reason, find_reason, tables_in, trace_in, index_in}
use Rattle.gufi_top.specs.Verdict.{Asking, writes_only, replied, asked, asked_if, walk_over, user_in, asked_by, index_over, ask_over, find_asking, command_over, command_in, verdict}
use Rattle.gufi_top.specs.Complete.{AskIsAnswerable}
use Rattle.gufi_top.specs.Laws.{WalkWritesTheListedRows, FindWritesTheListedRows, FindWritesTheListedRowsBehindItsPrefix}
use Rattle.gufi_ask.proofs.AskLemmas.{reply_found}
use Rattle.gufi_top.proofs.GenLemmas.{none_refused}

pub filter_all : (rows : List Row) → filter (λ row. true) rows ≡ rows
filter_all [] = refl
filter_all (row ∷ rows) = ap (λ l. row ∷ l) (filter_all rows)

asked_found : (tree : List Directory) (who : Principal) (start : Components) (ask : Ask) → is_found (resolve tree who start) ≡ true
    → asked tree who start ask ≡ writes_only (ask_text ask start (answer tree who start (ask_holds ask)))
unfolding asked
asked_found tree who start ask found = ap replied (reply_found tree who start ask (none_refused (resolve tree who start) found))

-- the words are a command
pub verdict_of : (words : List (List ℕ)) (files : Files) (command : Command) → read_words words ≡ Ok command → verdict words files ≡ command_over command files
unfolding verdict command_in
verdict_of words files command are = ap (λ (r : Result Command WordError). result_map_err words_reason r >>= λ command. command_over command files) are

-- what a walk writes, and an ask whose words may be refused
pub walk_text : (trace : List ℕ) (who : Principal) (delim : ℕ) (files : Files) (tree : List Directory) → trace_in delim trace files ≡ Ok tree → is_found (resolve tree who []) ≡ true
    → walk_over trace who delim files ≡ writes_only (ask_text walk_ask [] (answer tree who [] (ask_holds walk_ask)))
unfolding walk_over
walk_text trace who delim files tree means found =
    ap (λ (r : Result (List Directory) Reason). r >>= λ t. asked t who [] walk_ask) means ∙ asked_found tree who [] walk_ask found

pub asking_text : (common : Common) (asking : Asking) (files : Files) (can : AskIsAnswerable common asking files)
    → ask_over common asking files ≡ writes_only (ask_text can.ask common.start (answer can.snap.tree can.who common.start (ask_holds can.ask)))
unfolding ask_over index_over user_in
asking_text common asking files can =
    ap (λ (r : Result UserTables Reason). r >>= λ t. index_over common asking t files) can.users
    ∙ ap (λ (r : Result Snap Reason). r >>= asked_by common asking can.tables) can.index
    ∙ ap (λ (r : Option Principal). ok_or r (word_refused common.user_at) >>= λ w. asked_if can.snap.tree w common.start (asking can.tables)) can.user
    ∙ ap (λ (r : Result Ask Reason). r >>= asked can.snap.tree can.who common.start) can.words
    ∙ asked_found can.snap.tree can.who common.start can.ask can.found

pub walk_writes : WalkWritesTheListedRows
unfolding command_over answer
walk_writes words files trace uid gids delim tree are means found =
    verdict_of words files _ are
    ∙ walk_text trace (principal uid gids) delim files tree means found
    ∙ ap (λ rows. writes_only (path_lines rows)) (filter_all (listed_rows tree (principal uid gids) []))

-- what a find writes, with a prefix or without
find_writes_behind : (prefix : Option (List ℕ)) (words : List (List ℕ)) (files : Files) (common : Common) (now : Option ℤ) (tests : List (List ℕ)) (tables : UserTables) (snap : Snap) (who : Principal) (expression : Find)
    → read_words words ≡ Ok (commands.Find common now prefix tests) → tables_in common.passwd common.group files ≡ Ok tables → index_in common.delim common.limit common.index files ≡ Ok snap
    → principal_of tables common.user ≡ Some who → read_find tests tables now ≡ Ok expression → is_found (resolve snap.tree who common.start) ≡ true
    → verdict words files ≡ writes_only (found_lines prefix (answer snap.tree who common.start (find_holds expression)))
unfolding command_over
find_writes_behind prefix words files common now tests tables snap who expression are users means named read found =
    verdict_of words files _ are
    ∙ asking_text common (find_asking common.user_at now prefix tests) files (record {
      tables = tables;
      snap = snap;
      who = who;
      ask = find_ask prefix expression;
      users = users;
      index = means;
      user = named;
      words = ap (λ (r : Result Find FindError). result_map_err (find_reason common.user_at) r >>= λ e. Ok (find_ask prefix e)) read;
      found = found;
    })

pub find_writes : FindWritesTheListedRows
unfolding answer
find_writes = find_writes_behind None

pub find_writes_prefixed : FindWritesTheListedRowsBehindItsPrefix
unfolding answer
find_writes_prefixed words files common now prefix tests tables snap who expression are users means named read found =
    find_writes_behind (Some prefix) words files common now tests tables snap who expression are users means named read found
