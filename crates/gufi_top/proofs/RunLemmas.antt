-- Lemmas on how a run goes.
use Rattle.std.proofs.Common.{◌≡◌, ◌+◌, ℕ, Bool, true, false, List, [], refl, ◌∙◌, subst, inl, inr}
use Rattle.std.specs.Prelude.{⊤, Option, Some, None, option_map, Result, Ok, Err, IfErr, Vec}
use Rattle.std.specs.declared.alloc.Global.{Global}
use Rattle.std.proofs.lemmas.Bool.{false≢true}
use Rattle.gufi_io.specs.Files.{Files}
use Rattle.gufi_io.specs.declared.shelf.Shelf.{Ghosts as ShelfOf}
use Rattle.gufi_io.specs.declared.sink.Sink.{Ghosts as SinkOf}
use Rattle.gufi_base.specs.Basics.{◌>>=◌, result_map_err}
use Rattle.gufi_base.specs.Paths.{Components}
use Rattle.gufi_access.specs.declared.class.Principal.{Principal}
use Rattle.gufi_access.specs.Access.{principal}
use Rattle.gufi_words.specs.declared.command.Common.{Common}
use Rattle.gufi_words.specs.declared.command.Command.{Command}
use Rattle.gufi_words.specs.declared.command.Command.TheVariants as variants
use Rattle.gufi_words.specs.declared.word.WordError.{WordError}
use Rattle.gufi_words.specs.declared.word.WordError.TheVariants as word_errors
use Rattle.gufi_tree.specs.Tree.{Directory}
use Rattle.gufi_snap.specs.Snap.{Snap}
use Rattle.gufi_walk.specs.declared.refusal.Refusal.{Refusal}
use Rattle.gufi_plan.specs.Plan.{Plan}
use Rattle.gufi_ask.specs.Asks.{Ask, walk_ask}
use Rattle.gufi_info.specs.Info.{info_text}
use Rattle.gufi_diff.specs.Changes.{diff_lines}
use Rattle.gufi_snap.specs.Refreshed.{refreshed}
use Rattle.gufi_tree.specs.Graft.{graft}
use Rattle.gufi_trace.specs.TraceWriting.{written_trace}
use Rattle.gufi_top.specs.Reasons.{Reason, word_refused, words_reason, unwritten_reason, refresh_reason, tables_in, trace_in, index_in, told_in}
use Rattle.gufi_image.specs.Image.{image_text}
use Rattle.gufi_top.specs.Verdict.{Verdict, writes, runs, writes_only, replied, asked, asked_if, walk_over, user_in, Asking, listed_in, diff_from, diff_by, diff_over, asked_by, index_over, ask_over, stat_asking, find_asking, usage_asking, ls_asking, stats_asking, report_of, form_of, query_asking, agg_asking, trace2index_over, rolled_up, rollup_over, trace_written, index2trace_over, info_over, refreshed_image, refresh_by, refresh_over, summary_of, generated_tree, summary_over, gen_verdict, command_over, command_in, verdict, MayRefuse, MayRefuseWords, are_one_shot, is_one_shot, files_ahead, files_ahead_of}
use Rattle.gufi_top.specs.Calls.{Gives, GivesOver, IsOfBytes, IsOfWords, OfWordsOnlyBy}
use Rattle.gufi_top.specs.Views.{text_view}
use Rattle.gufi_top.specs.Ends.{told_verdict}
use Rattle.gufi_top.specs.Endings.{HasRun, HaltTells, RefusalTells, TellsOneOf}
use Rattle.gufi_top.specs.declared.halt.Output.{Output}
use Rattle.gufi_top.specs.declared.halt.Halt.{Halt}
use Rattle.gufi_top.specs.declared.halt.Halt.TheVariants as halts
use Rattle.gufi_top.proofs.StepLemmas.{over_ok, over_err, given_over}

-- ---- one step after another

pub walk_ok : (told : Option Files) (trace : List ℕ) (who : Principal) (delim : ℕ) (tree : List Directory) (r : Result Output Halt)
    → GivesOver {A = List Directory} told (λ t. t) (Ok tree) (trace_in delim trace) → Gives text_view r (asked tree who [] walk_ask) → GivesOver told text_view r (walk_over trace who delim)
unfolding walk_over
walk_ok told trace who delim tree r read given = over_ok told (λ t. t) text_view tree r (trace_in delim trace) (λ t files. asked t who [] walk_ask) read (given_over told text_view r _ given)

pub walk_err : (told : Option Files) (trace : List ℕ) (who : Principal) (delim : ℕ) (e : Halt)
    → GivesOver {A = List Directory} told (λ t. t) (Err e) (trace_in delim trace) → GivesOver told text_view (Err e) (walk_over trace who delim)
unfolding walk_over
walk_err told trace who delim e read = over_err told (λ t. t) text_view e (trace_in delim trace) (λ t files. asked t who [] walk_ask) read

pub trace2index_ok : (told : Option Files) (trace : List ℕ) (delim : ℕ) (tree : List Directory) (r : Result Output Halt)
    → GivesOver {A = List Directory} told (λ t. t) (Ok tree) (trace_in delim trace) → Gives text_view r (writes_only (image_text tree 0)) → GivesOver told text_view r (trace2index_over trace delim)
unfolding trace2index_over
trace2index_ok told trace delim tree r read given = over_ok told (λ t. t) text_view tree r (trace_in delim trace) (λ t files. writes_only (image_text t 0)) read (given_over told text_view r _ given)

pub trace2index_err : (told : Option Files) (trace : List ℕ) (delim : ℕ) (e : Halt)
    → GivesOver {A = List Directory} told (λ t. t) (Err e) (trace_in delim trace) → GivesOver told text_view (Err e) (trace2index_over trace delim)
unfolding trace2index_over
trace2index_err told trace delim e read = over_err told (λ t. t) text_view e (trace_in delim trace) (λ t files. writes_only (image_text t 0)) read

pub rollup_ok : (told : Option Files) (index : List ℕ) (delim limit : ℕ) (snap : Snap) (r : Result Output Halt)
    → GivesOver {A = Snap} told (λ s. s) (Ok snap) (index_in delim limit index) → Gives text_view r (rolled_up limit snap.tree) → GivesOver told text_view r (rollup_over index delim limit)
unfolding rollup_over
rollup_ok told index delim limit snap r read given = over_ok told (λ s. s) text_view snap r (index_in delim limit index) (λ s files. rolled_up limit s.tree) read (given_over told text_view r _ given)

pub rollup_err : (told : Option Files) (index : List ℕ) (delim limit : ℕ) (e : Halt)
    → GivesOver {A = Snap} told (λ s. s) (Err e) (index_in delim limit index) → GivesOver told text_view (Err e) (rollup_over index delim limit)
unfolding rollup_over
rollup_err told index delim limit e read = over_err told (λ s. s) text_view e (index_in delim limit index) (λ s files. rolled_up limit s.tree) read

pub ruleset chaining = (walk_ok, walk_err, trace2index_ok, trace2index_err, rollup_ok, rollup_err)

-- ---- a command that is no session

abbrev IsText : Result Verdict Reason → Type 0
IsText (Err why) = ⊤
IsText (Ok (writes whole)) = ⊤
IsText (Ok (runs files plan cache)) = ⊥

then_writes : {A : Type 0} (r : Result A Reason) (next : A → Result Verdict Reason) → ((x : A) → IsText (next x)) → IsText (r >>= next)
then_writes (Ok x) next each = each x
then_writes (Err why) next each = tt

reply_writes : (reply : Result (List ℕ) Refusal) → IsText (replied reply)
reply_writes (Ok text) = tt
reply_writes (Err refusal) = tt

asked_writes : (tree : List Directory) (who : Principal) (start : Components) (ask : Ask) → IsText (asked tree who start ask)
unfolding asked
asked_writes tree who start ask = reply_writes _

ask_writes : (common : Common) (asking : Asking) (files : Files) → IsText (ask_over common asking files)
unfolding ask_over index_over
ask_writes common asking files =
    then_writes (tables_in common.passwd common.group files) (λ tables. index_over common asking tables files) (λ tables.
    then_writes (index_in common.delim common.limit common.index files) (asked_by common asking tables) (λ snap.
    then_writes (user_in common tables) (λ who. asked_if snap.tree who common.start (asking tables)) (λ who.
    then_writes (asking tables) (asked snap.tree who common.start) (asked_writes snap.tree who common.start))))

diff_writes : (old : List ℕ) (common : Common) (files : Files) → IsText (diff_over old common files)
unfolding diff_over diff_by diff_from
diff_writes old common files =
    then_writes (tables_in common.passwd common.group files) (λ tables. diff_by old common tables files) (λ tables.
    then_writes (listed_in common tables old files) (λ rows. diff_from rows common tables files) (λ rows.
    then_writes (listed_in common tables common.index files) (λ new. writes_only (diff_lines rows new)) (λ new. tt)))

gen_writes : (n delim : ℕ) (summary : Bool) → IsText (gen_verdict n delim summary)
unfolding summary_over
gen_writes n delim true = then_writes (generated_tree n delim) (λ tree. replied (summary_of tree)) (λ tree. reply_writes (summary_of tree))
gen_writes n delim false = tt

command_writes : (command : Command) (files : Files) → is_one_shot command ≡ true → IsText (command_over command files)
unfolding command_over walk_over trace2index_over rollup_over index2trace_over info_over refresh_over refresh_by
command_writes (variants.Walk trace uid gids delim) files one =
    then_writes (trace_in delim trace files) (λ tree. asked tree (principal uid gids) [] walk_ask) (λ tree. asked_writes tree (principal uid gids) [] walk_ask)
command_writes (variants.Trace2index trace delim) files one = then_writes (trace_in delim trace files) (λ tree. writes_only (image_text tree 0)) (λ tree. tt)
command_writes (variants.Rollup index delim limit) files one = then_writes (index_in delim limit index files) (λ snap. rolled_up limit snap.tree) (λ snap. tt)
command_writes (variants.Index2trace index delim) files one =
    then_writes (index_in delim 0 index files) (λ snap. trace_written index delim snap.tree) (λ snap.
    then_writes (result_map_err (unwritten_reason index) (written_trace snap.tree [] delim)) writes_only (λ text. tt))
command_writes (variants.Info index delim limit) files one =
    then_writes (told_in delim limit index files) (λ indexed. writes_only (info_text indexed.image indexed.bytes indexed.snap.tree indexed.snap.limit)) (λ indexed. tt)
command_writes (variants.Refresh index delim limit path trace) files one =
    then_writes (index_in delim limit index files) (λ snap. refresh_by delim limit path trace snap files) (λ snap.
    then_writes (trace_in delim trace files) (refreshed_image trace limit path snap) (λ part.
    then_writes (result_map_err (refresh_reason trace (graft snap.tree path part)) (refreshed snap path part)) (λ after. writes_only (image_text after.tree limit)) (λ after. tt)))
command_writes (variants.Query common escape header json text) files one = ask_writes common (query_asking common.user_at (form_of escape header json) text) files
command_writes (variants.Agg common names text) files one = ask_writes common (agg_asking common.user_at names text) files
command_writes (variants.Find common now prefix words) files one = ask_writes common (find_asking common.user_at now prefix words) files
command_writes (variants.Du common now depth words) files one = ask_writes common (usage_asking (common.user_at + 1) now depth words) files
command_writes (variants.Ls common long all) files one = ask_writes common (ls_asking long all) files
command_writes (variants.Stat common) files one = ask_writes common stat_asking files
command_writes (variants.Stats common names report) files one = ask_writes common (stats_asking names (report_of report)) files
command_writes (variants.Diff old common) files one = diff_writes old common files
command_writes (variants.Session passwd group delim workers now cache script) files one = absurd (false≢true one)
command_writes (variants.Gen n delim workers summary) files one = gen_writes n delim summary

pub runs_nothing : (command : Command) → is_one_shot command ≡ true → (over files : Files) (plan : Plan) (cache : ℕ) → command_over command over ≡ Ok (runs files plan cache) → ⊥
runs_nothing command one over files plan cache is = subst IsText is (command_writes command over one)

-- ---- the words

pub command_ok : (words : Result Command WordError) (command : Command) → words ≡ Ok command → Gives {A = Command} (λ c. c) (Ok command) (result_map_err words_reason words)
command_ok words command is = rw is refl

pub command_err : (words : Result Command WordError) (word : ℕ) (note : Vec ℕ Global) → words ≡ Err (word_errors.Refused word) → note.items ≡ (word_refused word).note
    → Gives {A = Command} (λ c. c) (Err (halts.Refused 2 note)) (result_map_err words_reason words)
command_err words word note is told = rw (is, told) refl

pub ruleset commands = (command_ok, command_err)

-- ---- the words, and then what they ask

pub answer_err : (told : Option Files) (words : List (List ℕ)) (e : Halt)
    → Gives {A = Command} (λ c. c) (Err e) (command_in words) → GivesOver told text_view (Err e) (verdict words)
unfolding verdict
answer_err told words e read = over_err told (λ c. c) text_view e (λ files. command_in words) (λ c files. command_over c files) (given_over {A = Command} told (λ c. c) (Err e) _ read)

pub words_err : (words : List (List ℕ)) (e : Halt) → Gives {A = Command} (λ c. c) (Err e) (command_in words) → OfWordsOnlyBy (MayRefuseWords words) e
words_err words (halts.Refused status note) read = λ _. rw read refl
words_err words halts.ReadFault read = tt
words_err words halts.Memory read = tt

-- a run of the command that the words are is one of the words
command_told : (told : Option Files) (words : List (List ℕ)) (command : Command) → Gives {A = Command} (λ c. c) (Ok command) (command_in words)
    → told_verdict told words ≡ option_map (command_over command) told
unfolding verdict
command_told None words command read = refl
command_told (Some files) words command read = rw read refl

ahead_ok : (words : List (List ℕ)) (command : Command) → Gives {A = Command} (λ c. c) (Ok command) (command_in words) → files_ahead_of words ≡ files_ahead command
ahead_ok words command read = rw read refl

pub words_run : {F K : Type 0} (shelf : ShelfOf F) (sink : SinkOf K) (told : Option Files) (words : List (List ℕ)) (command : Command) {status : ℕ} {numbers : List ℕ} {before after : F} {out out' notes notes' : K}
    → Gives {A = Command} (λ c. c) (Ok command) (command_in words) → HasRun shelf sink (files_ahead command) (option_map (command_over command) told) status numbers before after out out' notes notes'
    → HasRun shelf sink (files_ahead_of words) (told_verdict told words) status numbers before after out out' notes notes'
words_run shelf sink told words command read run = rw (command_told told words command read, ahead_ok words command read) run

pub words_ok : {K : Type 0} (sink : SinkOf K) (words : List (List ℕ)) (command : Command) (notes notes' : K) → Gives {A = Command} (λ c. c) (Ok command) (command_in words)
    → TellsOneOf sink (MayRefuse command) notes notes' → TellsOneOf sink (MayRefuseWords words) notes notes'
words_ok sink words command notes notes' read told = rw read told

-- words that are no command, and those that are one
if_refused : (r : Result Command Reason) (P : Reason → Type 0) → ((why : Reason) → P why) → IfErr r P
if_refused (Ok command) P each = tt
if_refused (Err why) P each = each why

pub refusal_told : {F K : Type 0} (sink : SinkOf K) (words : List (List ℕ)) (e : Halt) (status : ℕ) (numbers : List ℕ) (shelf : F) (out notes notes' : K)
    → Gives {A = Command} (λ c. c) (Err e) (command_in words) → IsOfBytes e → IsOfWords e → HaltTells sink e status notes notes' → numbers ≡ []
    → IfErr (command_in words) (λ why. RefusalTells sink why status notes notes' × (numbers ≡ []) × (shelf ≡ shelf) × (out ≡ out))
refusal_told sink words (halts.Refused reason note) status numbers shelf out notes notes' read of_bytes two told none = rw read (inl (told.0 ∙ two, told.1), none, refl, refl)
refusal_told sink words halts.ReadFault status numbers shelf out notes notes' read of_bytes two told none = absurd of_bytes
refusal_told sink words halts.Memory status numbers shelf out notes notes' read of_bytes two told none =
    if_refused (command_in words) (λ why. RefusalTells sink why status notes notes' × (numbers ≡ []) × (shelf ≡ shelf) × (out ≡ out)) (λ why. (inr told, none, refl, refl))

pub none_refused : (words : List (List ℕ)) (command : Command) (P : Reason → Type 0) → Gives {A = Command} (λ c. c) (Ok command) (command_in words) → IfErr (command_in words) P
none_refused words command P read = rw read tt

pub one_shot_ok : (words : List (List ℕ)) (command : Command) → Gives {A = Command} (λ c. c) (Ok command) (command_in words) → are_one_shot words ≡ is_one_shot command
one_shot_ok words command read = rw read refl
