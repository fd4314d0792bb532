-- Lemmas on runs that are refused nothing.
use Rattle.std.proofs.Common.{◌≡◌, ◌+◌, ◌⊎◌, ⊎_elim, ℕ, Bool, true, false, List, [], ◌∙◌, min, subst, inl, inr}
use Rattle.std.specs.Prelude.{Option, Some, None, Result, Ok, Err, is_ok}
use Rattle.std.proofs.lemmas.Bool.{false≢true, cases_eq}
use Rattle.gufi_io.specs.Causes.{Rose}
use Rattle.gufi_io.specs.Files.{Files}
use Rattle.gufi_io.specs.declared.shelf.Shelf.{Ghosts as ShelfOf}
use Rattle.gufi_io.specs.declared.sink.Sink.{Ghosts as SinkOf}
use Rattle.gufi_base.specs.Basics.{◌>>=◌, result_map_err}
use Rattle.gufi_access.specs.Access.{principal}
use Rattle.gufi_snap.specs.Snap.{Snap}
use Rattle.gufi_image.specs.Image.{image_text}
use Rattle.gufi_roll.specs.CanRoll.{roll_flags, roll_report, report_text}
use Rattle.gufi_gen.proofs.MadeBack.{generated_read, roots_listed}
use Rattle.gufi_phases.specs.declared.load.Stop.{Stop}
use Rattle.gufi_plan.specs.Plan.{Plan}
use Rattle.gufi_session.specs.Run.{run_of}
use Rattle.gufi_words.specs.declared.command.Common.{Common}
use Rattle.gufi_words.specs.declared.command.Command.{Command}
use Rattle.gufi_words.specs.declared.command.Command.TheVariants as commands
use Rattle.gufi_walk.specs.declared.refusal.Refusal.{Refusal}
use Rattle.gufi_base.specs.Paths.{Components}
use Rattle.gufi_info.specs.Info.{info_text}
use Rattle.gufi_trace.specs.TraceWriting.{written_trace}
use Rattle.gufi_top.specs.Reasons.{Reason, unwritten_reason, trace_in, index_in, told_in}
use Rattle.gufi_top.specs.Verdict.{Written, Verdict, writes, runs, Asking, stat_asking, find_asking, usage_asking, ls_asking, stats_asking, report_of, form_of, query_asking, agg_asking, replied, ask_over, diff_over, trace2index_over, rollup_over, index2trace_over, info_over, refresh_over, session_plan, max_cache, run_over, session_over, summary_of, generated_tree, summary_over, gen_verdict, command_over, verdict}
use Rattle.gufi_top.specs.Ends.{told_verdict, RunEnds, EndsWith, EndedBy, IsVerdictStatus}
use Rattle.gufi_top.specs.Endings.{HasRun}
use Rattle.gufi_top.specs.Complete.{AskIsAnswerable, DiffIsAnswerable, TraceIsAnswerable, RefreshIsAnswerable, SessionIsAnswerable, IsAnswerable, IsAnswered, Completes}
use Rattle.gufi_top.specs.Laws.{AnswerableCommandsAreAnswered, RefreshWritesTheImageOfItsTree}
use Rattle.gufi_top.proofs.DiffLemmas.{diff_text}
use Rattle.gufi_top.proofs.GenLemmas.{gen_written}
use Rattle.gufi_top.proofs.IndexCommands.{unwritten_ok, told_where_read, refresh_text}
use Rattle.gufi_top.proofs.ListedTexts.{verdict_of, walk_text, asking_text}

-- ---- the verdict

answered_by : (given : Result Verdict Reason) (whole : Written) → given ≡ Ok (writes whole) → IsAnswered given
answered_by given whole is = rw is tt

answered_if : {A : Type 0} (r : Result A Reason) (text : A → Written) → is_ok r ≡ true → IsAnswered (r >>= λ x. Ok (writes (text x)))
answered_if (Ok x) text h = tt
answered_if (Err why) text h = absurd (false≢true h)

-- what a reply writes
reply_answered : (reply : Result (List ℕ) Refusal) → is_ok (replied reply) ≡ true → IsAnswered (replied reply)
reply_answered (Ok text) h = tt
reply_answered (Err refusal) h = absurd (false≢true h)

replies_answered : {A : Type 0} (r : Result A Reason) (reply : A → Result (List ℕ) Refusal) → is_ok (r >>= λ x. replied (reply x)) ≡ true → IsAnswered (r >>= λ x. replied (reply x))
replies_answered (Ok x) reply h = reply_answered (reply x) h
replies_answered (Err why) reply h = absurd (false≢true h)

gen_answered : (n delim : ℕ) (summary : Bool) → is_ok (gen_verdict n delim summary) ≡ true → IsAnswered (gen_verdict n delim summary)
unfolding summary_over
gen_answered n delim true h = replies_answered (generated_tree n delim) summary_of h
gen_answered n delim false h = tt

trace_answered : (index : List ℕ) (delim : ℕ) (files : Files) → TraceIsAnswerable index delim files → IsAnswered (index2trace_over index delim files)
unfolding index2trace_over
trace_answered index delim files can =
    let snap : Snap = can.0 in
    rw can.1 (answered_if (result_map_err (unwritten_reason index) (written_trace snap.tree [] delim)) (λ text. record { out = text; notes = [] }) (unwritten_ok index (written_trace snap.tree [] delim) can.2))

info_answered : (index : List ℕ) (delim limit : ℕ) (files : Files) → is_ok (index_in delim limit index files) ≡ true → IsAnswered (info_over index delim limit files)
unfolding info_over
info_answered index delim limit files can = answered_if (told_in delim limit index files) (λ indexed. record { out = info_text indexed.image indexed.bytes indexed.snap.tree indexed.snap.limit; notes = [] }) (told_where_read delim limit index files can)

refresh_answered : (index : List ℕ) (delim limit : ℕ) (path : Components) (trace : List ℕ) (files : Files) → RefreshIsAnswerable index delim limit path trace files → IsAnswered (refresh_over index delim limit path trace files)
refresh_answered index delim limit path trace files can = answered_by _ _ (refresh_text index delim limit path trace files can)

ask_answered : (common : Common) (asking : Asking) (files : Files) → AskIsAnswerable common asking files → IsAnswered (ask_over common asking files)
ask_answered common asking files can = answered_by _ _ (asking_text common asking files can)

diff_answered : (old : List ℕ) (common : Common) (files : Files) → DiffIsAnswerable old common files → IsAnswered (diff_over old common files)
diff_answered old common files can = answered_by _ _ (diff_text old common files can)

session_answered : (files : Files) (cache : ℕ) (planned : Result Plan Reason) → SessionIsAnswerable files planned → IsAnswered (planned >>= λ plan. run_over cache plan files)
session_answered files cache planned can = rw can.1 can.2

command_answered : (command : Command) (files : Files) → IsAnswerable command files → IsAnswered (command_over command files)
unfolding command_over trace2index_over rollup_over session_over
command_answered (commands.Walk trace uid gids delim) files can = answered_by _ _ (walk_text trace (principal uid gids) delim files can.0 can.1 can.2)
command_answered (commands.Trace2index trace delim) files can = answered_if (trace_in delim trace files) (λ tree. record { out = image_text tree 0; notes = [] }) can
command_answered (commands.Rollup index delim limit) files can =
    answered_if (index_in delim limit index files) (λ snap. record { out = image_text snap.tree limit; notes = report_text (roll_report snap.tree (roll_flags snap.tree limit)) }) can
command_answered (commands.Index2trace index delim) files can = trace_answered index delim files can
command_answered (commands.Info index delim limit) files can = info_answered index delim limit files can
command_answered (commands.Refresh index delim limit path trace) files can = refresh_answered index delim limit path trace files can
command_answered (commands.Query common escape header json text) files can = ask_answered common (query_asking common.user_at (form_of escape header json) text) files can
command_answered (commands.Agg common names text) files can = ask_answered common (agg_asking common.user_at names text) files can
command_answered (commands.Find common now prefix words) files can = ask_answered common (find_asking common.user_at now prefix words) files can
command_answered (commands.Du common now depth words) files can = ask_answered common (usage_asking (common.user_at + 1) now depth words) files can
command_answered (commands.Ls common long all) files can = ask_answered common (ls_asking long all) files can
command_answered (commands.Stat common) files can = ask_answered common stat_asking files can
command_answered (commands.Stats common names report) files can = ask_answered common (stats_asking names (report_of report)) files can
command_answered (commands.Diff old common) files can = diff_answered old common files can
command_answered (commands.Session passwd group delim workers now cache script) files can = session_answered files (min cache max_cache) (session_plan passwd group delim now script files) can
command_answered (commands.Gen n delim workers summary) files can = gen_answered n delim summary (gen_written generated_read roots_listed n delim summary can.0 can.1 can.2)

-- what `refresh` writes then
pub refresh_writes : RefreshWritesTheImageOfItsTree
unfolding command_over
refresh_writes words files index delim limit path trace snap part are index_is trace_is there few short =
    verdict_of words files _ are
    ∙ refresh_text index delim limit path trace files (record { snap = snap; part = part; indexed = index_is; traced = trace_is; there = there; few = few; short = short })

pub commands_answered : AnswerableCommandsAreAnswered
commands_answered words files command are can = rw (verdict_of words files command are) (command_answered command files can)

-- ---- the run

session_zero : (stop : Option Stop) (kept : List ℕ) (status : ℕ) (note : List ℕ) → stop ≡ None → RunEnds stop kept status note → status ≡ 0
session_zero stop kept status note none ends = (subst (λ s. RunEnds s kept status note) none ends).0

status_zero : (given : Result Verdict Reason) (status : ℕ) (numbers text note : List ℕ) → IsAnswered given → EndsWith given status numbers text note → status ≡ 0
status_zero (Err why) status numbers text note can ends = absurd can
status_zero (Ok (writes whole)) status numbers text note can ends = ends.0
status_zero (Ok (runs files plan cache)) status numbers text note can ends = session_zero (run_of files plan).stop _ status note can ends.1

-- a verdict's status, or one of the three others
kinds : (status : ℕ) → IsVerdictStatus status ⊎ (status ≡ 3) ⊎ (status ≡ 4) ⊎ (status ≡ 7)
kinds status =
    ⊎_elim (λ is. inr (inl is)) (λ three. ⊎_elim (λ is. inr (inr (inl is))) (λ four. ⊎_elim (λ is. inr (inr (inr is))) (λ seven. inl (three, four, seven))
    (cases_eq status 7)) (cases_eq status 4)) (cases_eq status 3)

module _ {F K : Type 0} (shelf : ShelfOf F) (sink : SinkOf K) where
  by_kind : {ahead : ℕ} (given : Result Verdict Reason) (status : ℕ) (numbers : List ℕ) (before after : F) (out out' notes notes' : K) → IsAnswered given
      → HasRun shelf sink ahead (Some given) status numbers before after out out' notes notes'
      → ¬ Rose (shelf.faults before) (shelf.faults after) → ¬ Rose (sink.faults out) (sink.faults out') → ¬ Rose (sink.faults notes) (sink.faults notes')
      → IsVerdictStatus status ⊎ (status ≡ 3) ⊎ (status ≡ 4) ⊎ (status ≡ 7) → ((status ≡ 0) × EndedBy sink (Some given) status numbers out out' notes notes') ⊎ (status ≡ 7)
  by_kind given status numbers before after out out' notes notes' can run read wrote noted (inl good) =
      let ended = run.ended good in inl (status_zero given status numbers ended.text ended.note can ended.answer, ended)
  by_kind given status numbers before after out out' notes notes' can run read wrote noted (inr (inl is)) = absurd (read (run.read_fault is).0)
  by_kind given status numbers before after out out' notes notes' can run read wrote noted (inr (inr (inl is))) = absurd (⊎_elim wrote noted (run.write_fault is).ends.cause)
  by_kind given status numbers before after out out' notes notes' can run read wrote noted (inr (inr (inr is))) = inr is

  pub completes : {ahead : ℕ} (words : List (List ℕ)) (status : ℕ) (numbers : List ℕ) (before after : F) (out out' notes notes' : K)
      → HasRun shelf sink ahead (told_verdict (shelf.files before) words) status numbers before after out out' notes notes' → Completes shelf sink words status numbers before after out out' notes notes'
  completes {ahead = ahead} words status numbers before after out out' notes notes' run files command told are can read wrote noted =
      by_kind (verdict words files) status numbers before after out out' notes notes' (commands_answered words files command are can)
      (subst (λ o. HasRun shelf sink ahead (told_verdict o words) status numbers before after out out' notes notes') told run) read wrote noted (kinds status)
