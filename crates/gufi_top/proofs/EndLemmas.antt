-- Lemmas on how a run ends.
use Rattle.std.proofs.Common.{◌≡◌, ◌≢◌, ◌≤◌, ◌⊎◌, ⊎_elim, ℕ, zero, suc, List, [], length, le_refl, le_trans, refl, sym, ◌∙◌, inl, inr, arith}
use Rattle.std.specs.Prelude.{⊤, Option, Some, None, option_map, Result, Ok, Err, Vec}
use Rattle.std.specs.declared.alloc.Global.{Global}
use Rattle.std.specs.Io.KnownBytes.{Appends}
use Rattle.std.proofs.KnownBytes.{Appends-nil}
use Rattle.std.proofs.lemmas.List.{append-nil}
use Rattle.gufi_io.specs.Calls.{many_more}
use Rattle.gufi_io.specs.Causes.{Rose}
use Rattle.gufi_io.specs.Files.{Files, TakesFront}
use Rattle.gufi_io.specs.Kept.{Keeps}
use Rattle.gufi_io.specs.declared.shelf.Shelf.{Ghosts as ShelfOf}
use Rattle.gufi_io.specs.declared.sink.Sink.{Ghosts as SinkOf}
use Rattle.gufi_phases.specs.declared.load.Stop.{Stop}
use Rattle.gufi_phases.specs.declared.load.Stop.TheVariants as stops
use Rattle.gufi_phases.specs.declared.session.End.{End}
use Rattle.gufi_phases.specs.declared.session.End.TheVariants as ends
use Rattle.gufi_phases.specs.Loads.{StopHasCause, EndHasCause}
use Rattle.gufi_plan.specs.Plan.{Plan}
use Rattle.gufi_session.specs.Session.{fits, session_text, phases_text}
use Rattle.gufi_session.specs.Run.{Run, run_of}
use Rattle.gufi_session.specs.Ends.{Answered, AnsweredWhere, SessionEnded, MayEndSession}
use Rattle.gufi_session.specs.Loading.{FailsBehind}
use Rattle.gufi_session.specs.Hits.{session_hits}
use Rattle.gufi_top.specs.Reasons.{Reason, stop_reason}
use Rattle.gufi_top.specs.Verdict.{Verdict, writes, runs, run_over}
use Rattle.gufi_top.specs.Calls.{GivesOver, OfWordsOnlyBy, IsPastWords, HaltHasCause}
use Rattle.gufi_top.specs.Views.{text_view}
use Rattle.gufi_top.specs.Ends.{IsVerdictStatus, BreaksOff, Anywhere, FailedBehind, MayBreakOff, MayBeCut, TakesNote, EndedBy, BrokenOffBy, TextEnds, WriteFaultedBy, hits_note, read_fault_note, memory_note}
use Rattle.gufi_top.specs.Endings.{HasRun, HaltTells, TellsOneOf, DoneTells, EndTells}
use Rattle.gufi_top.proofs.HitLemmas.{kept_told}
use Rattle.gufi_top.specs.declared.halt.Output.{Output}
use Rattle.gufi_top.specs.declared.halt.Halt.{Halt}
use Rattle.gufi_top.specs.declared.halt.Halt.TheVariants as halts

-- ---- by its status

module _ {F K : Type 0} {shelf : ShelfOf F} {sink : SinkOf K} {ahead : ℕ} {given : Option (Result Verdict Reason)} {status : ℕ} {numbers : List ℕ} {before after : F} {out out' notes notes' : K} where
  as_ended : IsVerdictStatus status → status ≤ 8 → Keeps shelf before after → (status ≡ 8 → Rose (shelf.absents before) (shelf.absents after)) → EndedBy sink given status numbers out out' notes notes'
      → HasRun shelf sink ahead given status numbers before after out out' notes notes'
  as_ended good few kept absent ended = record {
    ended = λ _. ended;
    absent = absent;
    read_fault = λ e. absurd (good.0 e);
    write_fault = λ e. absurd (good.1 e);
    memory = λ e. absurd (good.2 e);
    known = few;
    kept = kept;
  }

  as_read_fault : status ≡ 3 → Keeps shelf before after → Rose (shelf.faults before) (shelf.faults after) → BrokenOffBy sink (FailedBehind shelf ahead before after) given numbers out out' notes notes' read_fault_note
      → HasRun shelf sink ahead given status numbers before after out out' notes notes'
  as_read_fault is kept rose broken = record {
    ended = λ good. absurd (good.0 is);
    absent = λ e. absurd (omega arith);
    read_fault = λ _. (rose, broken);
    write_fault = λ e. absurd (omega arith);
    memory = λ e. absurd (omega arith);
    known = omega arith;
    kept = kept;
  }

  as_write_fault : status ≡ 4 → Keeps shelf before after → WriteFaultedBy sink given numbers out out' notes notes' → HasRun shelf sink ahead given status numbers before after out out' notes notes'
  as_write_fault is kept cut = record {
    ended = λ good. absurd (good.1 is);
    absent = λ e. absurd (omega arith);
    read_fault = λ e. absurd (omega arith);
    write_fault = λ _. cut;
    memory = λ e. absurd (omega arith);
    known = omega arith;
    kept = kept;
  }

  as_memory : status ≡ 7 → Keeps shelf before after → BrokenOffBy sink Anywhere given numbers out out' notes notes' memory_note → HasRun shelf sink ahead given status numbers before after out out' notes notes'
  as_memory is kept broken = record {
    ended = λ good. absurd (good.2 is);
    absent = λ e. absurd (omega arith);
    read_fault = λ e. absurd (omega arith);
    write_fault = λ e. absurd (omega arith);
    memory = λ _. broken;
    known = omega arith;
    kept = kept;
  }

-- ---- what is kept of a shelf

module _ {F : Type 0} (shelf : ShelfOf F) where
  pub keeps_itself : (here : F) → Keeps shelf here here
  keeps_itself here = record { files = refl; faults = le_refl _; absents = le_refl _ }

  keeps_on : (before mid after : F) → Keeps shelf before mid → Keeps shelf mid after → Keeps shelf before after
  keeps_on before mid after first second = record { files = second.files ∙ first.files; faults = le_trans first.faults second.faults; absents = le_trans first.absents second.absents }

-- ---- where it broke off

breaks_where : (broke other : Plan → ℕ → Type 0) → ((plan : Plan) (count : ℕ) → broke plan count → other plan count) → (given : Option (Result Verdict Reason)) (numbers text : List ℕ) → MayBreakOff broke given numbers text → MayBreakOff other given numbers text
breaks_where broke other to None numbers text is = tt
breaks_where broke other to (Some (Err why)) numbers text is = is
breaks_where broke other to (Some (Ok (writes whole))) numbers text is = is
breaks_where broke other to (Some (Ok (runs files plan cache))) numbers text is = (is.0, is.1, to plan is.0 is.2)

none_more : (at at' opened : ℕ) → opened ≤ 0 → at' ≡ many_more at opened → at' ≡ at
unfolding many_more
none_more at at' zero few is = is
none_more at at' (suc opened) few is = absurd (omega arith)

-- where so many files were opened before
failed_later : {F : Type 0} (shelf : ShelfOf F) (ahead : ℕ) (before mid after : F) → Keeps shelf before mid → shelf.opens mid ≡ many_more (shelf.opens before) ahead
    → (plan : Plan) (count : ℕ) → FailedBehind shelf 0 mid after plan count → FailedBehind shelf ahead before after plan count
failed_later shelf ahead before mid after kept opened plan count (inl none) = inl (none.0, (ahead, le_refl ahead, none_more _ _ none.1.0 none.1.1 none.1.2 ∙ opened))
failed_later shelf ahead before mid after kept opened plan count (inr begun) = inr (begun.0, keeps_on shelf before mid begun.0 kept begun.1, none_more _ _ 0 (le_refl 0) begun.2 ∙ opened, begun.3)

-- what was read before changes nothing but how many files are opened ahead
pub run_later : {F K : Type 0} (shelf : ShelfOf F) (sink : SinkOf K) {ahead : ℕ} {given : Option (Result Verdict Reason)} {status : ℕ} {numbers : List ℕ} {before mid after : F} {out out' notes notes' : K}
    → Keeps shelf before mid → shelf.opens mid ≡ many_more (shelf.opens before) ahead → HasRun shelf sink 0 given status numbers mid after out out' notes notes'
    → HasRun shelf sink ahead given status numbers before after out out' notes notes'
run_later shelf sink {ahead = ahead} {given = given} {numbers = numbers} {before = before} {mid = mid} {after = after} kept opened run = record {
  ended = run.ended;
  absent = λ e. let rose = run.absent e in let more = kept.absents in omega arith;
  read_fault = λ e. let fault = run.read_fault e in let rose = fault.0 in let more = kept.faults in let broken = fault.1 in (
    omega arith,
    record {
      text = broken.text;
      answer = breaks_where (FailedBehind shelf 0 mid after) (FailedBehind shelf ahead before after) (failed_later shelf ahead before mid after kept opened) given numbers broken.text broken.answer;
      taken = broken.taken;
      noted = broken.noted;
    },
  );
  write_fault = run.write_fault;
  memory = run.memory;
  known = run.known;
  kept = keeps_on shelf before mid after kept run.kept;
}

-- ---- where nothing is written

module _ (broke : Plan → ℕ → Type 0) where
  nothing_answered : (files : Files) (plan : Plan) → broke plan 0 → AnsweredWhere (broke plan) files (run_of files plan) [] []
  unfolding fits session_text phases_text
  nothing_answered files plan may = (0, record { within = omega arith; fit = refl; written = refl }, may)

  -- where it may break off before the phases of a session, if it is one
  breaks_off : (v : Result Verdict Reason) → ((files : Files) (plan : Plan) (cache : ℕ) → v ≡ Ok (runs files plan cache) → broke plan 0) → BreaksOff broke v [] []
  breaks_off (Err why) may = (refl, refl)
  breaks_off (Ok (writes whole)) may = (refl, refl)
  breaks_off (Ok (runs files plan cache)) may = nothing_answered files plan (may files plan cache refl)

  nothing_written : (step : Files → Result Verdict Reason) (told : Option Files) → ((over files : Files) (plan : Plan) (cache : ℕ) → step over ≡ Ok (runs files plan cache) → broke plan 0)
      → MayBreakOff broke (option_map step told) [] []
  nothing_written step None may = tt
  nothing_written step (Some over) may = breaks_off (step over) (may over)

  broken_off : {K : Type 0} (sink : SinkOf K) (step : Files → Result Verdict Reason) (told : Option Files) (numbers : List ℕ) (out notes notes' : K) (note : List ℕ)
      → ((over files : Files) (plan : Plan) (cache : ℕ) → step over ≡ Ok (runs files plan cache) → broke plan 0)
      → numbers ≡ [] → TakesNote sink notes notes' note → BrokenOffBy sink broke (option_map step told) numbers out out notes notes' note
  broken_off sink step told numbers out notes notes' note may none noted =
      rw none (record { text = []; answer = nothing_written step told may; taken = Appends-nil (sink.taken out); noted = noted })

pub nothing_opened : {F : Type 0} (shelf : ShelfOf F) (ahead : ℕ) (here : F) → (opened : ℕ) × (opened ≤ ahead) × (shelf.opens here ≡ many_more (shelf.opens here) opened)
unfolding many_more
nothing_opened shelf ahead here = (0, omega arith, refl)

-- a session whose plan isn't read breaks off before all phases
pub before_all : {F : Type 0} (shelf : ShelfOf F) (ahead : ℕ) (before after : F) → (opened : ℕ) × (opened ≤ ahead) × (shelf.opens after ≡ many_more (shelf.opens before) opened)
    → (plan : Plan) → FailedBehind shelf ahead before after plan 0
before_all shelf ahead before after is plan = inl (refl, is)

module _ {F K : Type 0} (shelf : ShelfOf F) (sink : SinkOf K) (step : Files → Result Verdict Reason) where
  refused : (told : Option Files) (status : ℕ) (note : Vec ℕ Global) (out notes notes' : K)
      → GivesOver told text_view (Err (halts.Refused status note)) step → TakesNote sink notes notes' note.items
      → EndedBy sink (option_map step told) status [] out out notes notes'
  refused None status note out notes notes' given noted = record { text = []; note = note.items; answer = tt; taken = Appends-nil (sink.taken out); noted = noted }
  refused (Some files) status note out notes notes' given noted =
      record { text = []; note = note.items; answer = rw given (refl, refl, refl, refl); taken = Appends-nil (sink.taken out); noted = rw given noted }

  pub halted_run : (told : Option Files) (halt : Halt) {ahead status : ℕ} {numbers : List ℕ} {before after : F} {out notes notes' : K}
      → GivesOver told text_view (Err halt) step → HaltHasCause shelf before after halt → Keeps shelf before after
      → ((over files : Files) (plan : Plan) (cache : ℕ) → step over ≡ Ok (runs files plan cache) → FailedBehind shelf ahead before after plan 0)
      → HaltTells sink halt status notes notes' → numbers ≡ [] → HasRun shelf sink ahead (option_map step told) status numbers before after out out notes notes'
  halted_run told (halts.Refused reason note) given cause kept may told_by none =
      rw (told_by.0, none) (as_ended cause.0.0 cause.0.1 kept cause.1 (refused told reason note _ _ _ given told_by.1))
  halted_run told halts.ReadFault {ahead = ahead} {before = before} {after = after} given cause kept may told_by none =
      as_read_fault told_by.0 kept cause (broken_off (FailedBehind shelf ahead before after) sink step told _ _ _ _ _ may none told_by.1)
  halted_run told halts.Memory given cause kept may told_by none =
      as_memory told_by.0 kept (broken_off Anywhere sink step told _ _ _ _ _ (λ over files plan cache is. tt) none told_by.1)

  -- ---- a text that was written

  whole : (told : Option Files) (output : Output) (out out' notes notes' : K)
      → GivesOver told text_view (Ok output) step → Appends (sink.taken out) (sink.taken out') output.out.items → Appends (sink.taken notes) (sink.taken notes') output.notes.items
      → EndedBy sink (option_map step told) 0 [] out out' notes notes'
  whole None output out out' notes notes' given taken noted = record { text = output.out.items; note = output.notes.items; answer = tt; taken = taken; noted = inl noted }
  whole (Some files) output out out' notes notes' given taken noted =
      record { text = output.out.items; note = output.notes.items; answer = rw given (refl, refl, refl, refl); taken = taken; noted = rw given noted }

  cut : (told : Option Files) (output : Output) → GivesOver told text_view (Ok output) step → MayBeCut (option_map step told) [] output.out.items output.notes.items
  cut None output given = tt
  cut (Some files) output given = rw given (refl, refl, refl)

  pub written_run : (told : Option Files) (output : Output) {ahead status : ℕ} {numbers : List ℕ} {before after : F} {out out' notes notes' : K}
      → GivesOver told text_view (Ok output) step → Keeps shelf before after → numbers ≡ [] → (status ≡ 0) ⊎ (status ≡ 4)
      → (status ≡ 0 → Appends (sink.taken out) (sink.taken out') output.out.items × Appends (sink.taken notes) (sink.taken notes') output.notes.items)
      → (status ≡ 4 → TextEnds sink out out' notes notes' output.out.items output.notes.items)
      → HasRun shelf sink ahead (option_map step told) status numbers before after out out' notes notes'
  written_run told output given kept none which good fault = ⊎_elim
      (λ is. let done = good is in rw (is, none) (as_ended (λ e. omega arith, λ e. omega arith, λ e. omega arith) (omega arith) kept (λ e. absurd (omega arith)) (whole told output _ _ _ _ given done.0 done.1)))
      (λ is. rw none (as_write_fault is kept (record { text = output.out.items; report = output.notes.items; answer = cut told output given; ends = fault is })))
      which

-- ---- a session

part : (files : Files) (run : Run) (numbers text : List ℕ) → Answered files run (length run.plan) numbers text → AnsweredWhere (λ count. ⊤) files run numbers text
part files run numbers text whole = (length run.plan, whole, tt)

some_answered : (broke : ℕ → Type 0) (told : Option Files) (plan : Plan) (cache : ℕ) (end : End) (numbers text : List ℕ) → MayEndSession broke told plan end numbers text → MayBreakOff Anywhere (option_map (run_over cache plan) told) numbers text
some_answered broke None plan cache end numbers text is = tt
some_answered broke (Some files) plan cache ends.Done numbers text is = part files (run_of files plan) numbers text is.1
some_answered broke (Some files) plan cache (ends.Stopped stop) numbers text is = part files (run_of files plan) numbers text is.1
some_answered broke (Some files) plan cache ends.ReadFault numbers text is = (is.0, is.1, tt)
some_answered broke (Some files) plan cache ends.WriteFault numbers text is = (is.0, is.1, tt)
some_answered broke (Some files) plan cache ends.Full numbers text is = (is.0, is.1, tt)
some_answered broke (Some files) plan cache ends.Memory numbers text is = (is.0, is.1, tt)

session_cut : (broke : ℕ → Type 0) (told : Option Files) (plan : Plan) (cache : ℕ) (numbers text : List ℕ) → MayEndSession broke told plan ends.WriteFault numbers text → MayBeCut (option_map (run_over cache plan) told) numbers text []
session_cut broke None plan cache numbers text is = tt
session_cut broke (Some files) plan cache numbers text is = inl (is, refl)

-- where all phases are written, so many asks are hits, if the shelf tells its bytes
abbrev AreHits : Option Files → Plan → ℕ → End → ℕ → List ℕ → Type 0
AreHits told plan cache end hits numbers = (files : Files) → told ≡ Some files → end ≡ ends.Done → hits ≡ session_hits files plan cache numbers

note_cut : (broke : ℕ → Type 0) (told : Option Files) (plan : Plan) (cache hits : ℕ) (numbers text : List ℕ) → MayEndSession broke told plan ends.Done numbers text → AreHits told plan cache ends.Done hits numbers
    → MayBeCut (option_map (run_over cache plan) told) numbers text (hits_note cache hits (length numbers))
note_cut broke None plan cache hits numbers text is are = tt
note_cut broke (Some files) plan cache hits numbers text is are = inr (is.1, is.0, kept_told files plan cache hits numbers text is.0 is.1 (are files refl refl))

took_all : (old new : Option (List ℕ)) (text : List ℕ) → Appends old new text → TakesFront old new text
took_all old new text is = ([], record { front = text; parts = sym (append-nil text); taken = is })

-- the status of a stop, and where it comes from
stop_good : (stop : Stop) → IsVerdictStatus (stop_reason stop).status
stop_good (stops.NoFile file) = (λ e. omega arith, λ e. omega arith, λ e. omega arith)
stop_good (stops.TooLong file) = (λ e. omega arith, λ e. omega arith, λ e. omega arith)

stop_few : (stop : Stop) → (stop_reason stop).status ≤ 8
stop_few (stops.NoFile file) = omega arith
stop_few (stops.TooLong file) = omega arith

stop_absent : {F : Type 0} (shelf : ShelfOf F) (before after : F) (stop : Stop) → StopHasCause shelf before after stop → (stop_reason stop).status ≡ 8 → Rose (shelf.absents before) (shelf.absents after)
stop_absent shelf before after (stops.NoFile file) cause e = cause
stop_absent shelf before after (stops.TooLong file) cause e = absurd (omega arith)

module _ {F K : Type 0} (shelf : ShelfOf F) (sink : SinkOf K) (broke : ℕ → Type 0) where
  done : (told : Option Files) (plan : Plan) (cache hits : ℕ) (numbers : List ℕ) (out out' notes notes' : K)
      → SessionEnded told plan broke ends.Done numbers (sink.taken out) (sink.taken out') → AreHits told plan cache ends.Done hits numbers
      → Appends (sink.taken notes) (sink.taken notes') (hits_note cache hits (length numbers)) → EndedBy sink (option_map (run_over cache plan) told) 0 numbers out out' notes notes'
  done None plan cache hits numbers out out' notes notes' e are noted = record { text = e.text; note = hits_note cache hits (length numbers); answer = tt; taken = e.taken; noted = inl noted }
  done (Some files) plan cache hits numbers out out' notes notes' e are noted =
      let same = kept_told files plan cache hits numbers e.text e.answer.0 e.answer.1 (are files refl refl) in
      record { text = e.text; note = hits_note cache hits (length numbers); answer = (e.answer.1, rw e.answer.0 (refl, same)); taken = e.taken; noted = rw e.answer.0 noted }

  stopped : (told : Option Files) (plan : Plan) (cache : ℕ) (stop : Stop) (numbers : List ℕ) (out out' notes notes' : K)
      → SessionEnded told plan broke (ends.Stopped stop) numbers (sink.taken out) (sink.taken out') → TakesNote sink notes notes' (stop_reason stop).note
      → EndedBy sink (option_map (run_over cache plan) told) (stop_reason stop).status numbers out out' notes notes'
  stopped None plan cache stop numbers out out' notes notes' e noted = record { text = e.text; note = (stop_reason stop).note; answer = tt; taken = e.taken; noted = noted }
  stopped (Some files) plan cache stop numbers out out' notes notes' e noted =
      record { text = e.text; note = (stop_reason stop).note; answer = (e.answer.1, rw e.answer.0 (refl, refl)); taken = e.taken; noted = rw e.answer.0 noted }

  session_broken : (told : Option Files) (plan : Plan) (cache : ℕ) (end : End) (numbers : List ℕ) (out out' notes notes' : K) (note : List ℕ)
      → (e : SessionEnded told plan broke end numbers (sink.taken out) (sink.taken out')) → Appends (sink.taken out) (sink.taken out') e.text → TakesNote sink notes notes' note
      → BrokenOffBy sink Anywhere (option_map (run_over cache plan) told) numbers out out' notes notes' note
  session_broken told plan cache end numbers out out' notes notes' note e taken noted =
      record { text = e.text; answer = some_answered broke told plan cache end numbers e.text e.answer; taken = taken; noted = noted }

  -- all phases are written, and then the note
  session_done : (told : Option Files) (plan : Plan) (cache hits : ℕ) {status : ℕ} {numbers : List ℕ} {before after : F} {out out' notes notes' : K}
      → SessionEnded told plan broke ends.Done numbers (sink.taken out) (sink.taken out') → AreHits told plan cache ends.Done hits numbers → DoneTells sink (hits_note cache hits (length numbers)) status notes notes'
      → Keeps shelf before after → HasRun shelf sink 0 (option_map (run_over cache plan) told) status numbers before after out out' notes notes'
  session_done told plan cache hits e are (inl is) kept =
      rw is.0 (as_ended (λ e. omega arith, λ e. omega arith, λ e. omega arith) (omega arith) kept (λ e. absurd (omega arith)) (done told plan cache hits _ _ _ _ _ e are is.1))
  session_done told plan cache hits e are (inr (inl is)) kept = as_write_fault is.0 kept (record {
    text = e.text;
    report = hits_note cache hits (length _);
    answer = note_cut broke told plan cache hits _ e.text e.answer are;
    ends = record { cause = inr is.1; taken = took_all _ _ e.text e.taken; noted = inr (is.1, is.2) };
  })
  session_done told plan cache hits e are (inr (inr is)) kept = as_memory is.0 kept (session_broken told plan cache ends.Done _ _ _ _ _ memory_note e e.taken is.1)

-- reading failed behind exactly so many phases
failed_read : {F : Type 0} (shelf : ShelfOf F) (before after : F) (told : Option Files) (plan : Plan) (cache : ℕ) (numbers text : List ℕ)
    → MayEndSession (λ count. FailsBehind shelf plan count before after) told plan ends.ReadFault numbers text → MayBreakOff (FailedBehind shelf 0 before after) (option_map (run_over cache plan) told) numbers text
unfolding many_more
failed_read shelf before after None plan cache numbers text is = tt
failed_read shelf before after (Some files) plan cache numbers text is = (is.0, is.1, inr (before, keeps_itself shelf before, refl, is.2))

pub session_run : {F K : Type 0} (shelf : ShelfOf F) (sink : SinkOf K) (told : Option Files) (plan : Plan) (cache hits : ℕ) (end : End) {status : ℕ} {numbers : List ℕ} (before after : F) {out out' notes notes' : K}
    → SessionEnded told plan (λ count. FailsBehind shelf plan count before after) end numbers (sink.taken out) (sink.taken out') → AreHits told plan cache end hits numbers → EndHasCause shelf before after sink out out' end
    → Keeps shelf before after → EndTells sink (hits_note cache hits (length numbers)) end status notes notes' → HasRun shelf sink 0 (option_map (run_over cache plan) told) status numbers before after out out' notes notes'
session_run shelf sink told plan cache hits ends.Done before after e are cause kept tells = session_done shelf sink (λ count. FailsBehind shelf plan count before after) told plan cache hits e are tells kept
session_run shelf sink told plan cache hits (ends.Stopped stop) before after e are cause kept tells =
    let broke = λ (count : ℕ). FailsBehind shelf plan count before after in ⊎_elim
    (λ is. rw is.0 (as_ended (stop_good stop) (stop_few stop) kept (stop_absent shelf before after stop cause) (stopped shelf sink broke told plan cache stop _ _ _ _ _ e is.1)))
    (λ is. as_memory is.0 kept (session_broken shelf sink broke told plan cache (ends.Stopped stop) _ _ _ _ _ memory_note e e.taken is.1))
    tells
session_run shelf sink told plan cache hits ends.ReadFault before after e are cause kept tells =
    as_read_fault tells.0 kept cause (record { text = e.text; answer = failed_read shelf before after told plan cache _ e.text e.answer; taken = e.taken; noted = tells.1 })
session_run shelf sink told plan cache hits ends.WriteFault before after e are cause kept tells = as_write_fault tells.0 kept (record {
  text = e.text;
  report = [];
  answer = session_cut (λ count. FailsBehind shelf plan count before after) told plan cache _ e.text e.answer;
  ends = record { cause = inl cause; taken = e.taken; noted = inl tells.1 };
})
session_run shelf sink told plan cache hits ends.Full before after e are cause kept tells = absurd tells
session_run shelf sink told plan cache hits ends.Memory before after e are cause kept tells =
    as_memory tells.0 kept (session_broken shelf sink (λ count. FailsBehind shelf plan count before after) told plan cache ends.Memory _ _ _ _ _ memory_note e e.taken tells.1)

-- ---- the words

module _ {K : Type 0} (sink : SinkOf K) where
  pub halt_words : (P : Reason → Type 0) (halt : Halt) (status : ℕ) (notes notes' : K) → OfWordsOnlyBy P halt → HaltTells sink halt status notes notes' → status ≡ 2 → TellsOneOf sink P notes notes'
  halt_words P (halts.Refused reason note) status notes notes' words tells is =
      let two = sym tells.0 ∙ is in (record { status = reason; note = note.items }, words two, two, tells.1)
  halt_words P halts.ReadFault status notes notes' words tells is = absurd (let e = tells.0 in omega arith)
  halt_words P halts.Memory status notes notes' words tells is = absurd (let e = tells.0 in omega arith)

  pub halt_past_words : (halt : Halt) (status : ℕ) (notes notes' : K) → IsPastWords halt → HaltTells sink halt status notes notes' → status ≢ 2
  halt_past_words (halts.Refused reason note) status notes notes' past tells = λ is. past (sym tells.0 ∙ is)
  halt_past_words halts.ReadFault status notes notes' past tells = λ is. let e = tells.0 in omega arith
  halt_past_words halts.Memory status notes notes' past tells = λ is. let e = tells.0 in omega arith

stop_past_words : (stop : Stop) → (stop_reason stop).status ≢ 2
stop_past_words (stops.NoFile file) = λ e. omega arith
stop_past_words (stops.TooLong file) = λ e. omega arith

done_past_words : {K : Type 0} (sink : SinkOf K) (note : List ℕ) (status : ℕ) (notes notes' : K) → DoneTells sink note status notes notes' → status ≢ 2
done_past_words sink note status notes notes' (inl t) = λ is. let e = t.0 in omega arith
done_past_words sink note status notes notes' (inr (inl t)) = λ is. let e = t.0 in omega arith
done_past_words sink note status notes notes' (inr (inr t)) = λ is. let e = t.0 in omega arith

pub end_past_words : {K : Type 0} (sink : SinkOf K) (note : List ℕ) (end : End) (status : ℕ) (notes notes' : K) → EndTells sink note end status notes notes' → status ≢ 2
end_past_words sink note ends.Done status notes notes' tells = done_past_words sink note status notes notes' tells
end_past_words sink note (ends.Stopped stop) status notes notes' tells =
    λ is. ⊎_elim (λ t. stop_past_words stop (sym t.0 ∙ is)) (λ t. let e = t.0 in omega arith) tells
end_past_words sink note ends.ReadFault status notes notes' tells = λ is. let e = tells.0 in omega arith
end_past_words sink note ends.WriteFault status notes notes' tells = λ is. let e = tells.0 in omega arith
end_past_words sink note ends.Full status notes notes' tells = absurd tells
end_past_words sink note ends.Memory status notes notes' tells = λ is. let e = tells.0 in omega arith
