-- How a run may end: its status and numbers, what the output took, and the note.
use Rattle.std.specs.Prelude.{◌≡◌, ◌≢◌, ◌⊎◌, ℕ, ◌==◌, List, [], ◌++◌, length, codes, decimal, ⊤, Option, Some, None, option_map, Result, Ok, Err, if◌then◌else◌, ◌≤◌}
use Rattle.std.specs.Io.KnownBytes.{Appends}
use Rattle.gufi_io.specs.Calls.{many_more}
use Rattle.gufi_io.specs.Causes.{Rose}
use Rattle.gufi_io.specs.Files.{Files, TakesFront}
use Rattle.gufi_io.specs.Kept.{Keeps}
use Rattle.gufi_io.specs.declared.shelf.Shelf.{Ghosts as ShelfOf}
use Rattle.gufi_io.specs.declared.sink.Sink.{Ghosts as SinkOf}
use Rattle.gufi_base.specs.Basics.{line}
use Rattle.gufi_phases.specs.declared.load.Stop.{Stop}
use Rattle.gufi_plan.specs.Plan.{Plan}
use Rattle.gufi_plan.specs.Asks.{searches_of}
use Rattle.gufi_session.specs.Run.{Run, run_of}
use Rattle.gufi_session.specs.Ends.{AnsweredWhole, AnsweredInPart, AnsweredWhere}
use Rattle.gufi_session.specs.Loading.{FailsBehind}
use Rattle.gufi_session.specs.Hits.{session_hits}
use Rattle.gufi_top.specs.Reasons.{Reason, stop_reason}
use Rattle.gufi_top.specs.Verdict.{Verdict, writes, runs, verdict}
use Rattle.gufi_top.specs.declared.ending.Outcome.{Outcome}

abbrev pub read_fault_note : List ℕ
read_fault_note = line (codes "gufi: read fault")

abbrev pub write_fault_note : List ℕ
write_fault_note = line (codes "gufi: write fault")

abbrev pub memory_note : List ℕ
memory_note = line (codes "gufi: no memory")

-- how many of so many asks were answered by what their lanes kept; no note where lanes keep nothing
abbrev pub hits_note : ℕ → ℕ → ℕ → List ℕ
hits_note cache hits asks = if cache == 0 then [] else line (codes "cache hits " ++ decimal hits ++ codes " of " ++ decimal asks)

-- the same of all asks of a run whose lanes keep so many of their last replies, where the replies bear these numbers
abbrev pub cache_note : Files → Run → ℕ → List ℕ → List ℕ
cache_note files run cache numbers = hits_note cache (session_hits files run.plan cache numbers) (length (searches_of run.plan))

-- a status that tells of no fault and of no want of memory
abbrev pub IsVerdictStatus : ℕ → Type 0
IsVerdictStatus status = (status ≢ 3) × (status ≢ 4) × (status ≢ 7)

-- ---- by the verdict: the status, the numbers, the text and the note

-- a session ends with status 0 and the note of what its lanes kept, or for the file of a phase at which it ends
abbrev pub RunEnds : Option Stop → List ℕ → ℕ → List ℕ → Type 0
RunEnds None kept status note = (status ≡ 0) × (note ≡ kept)
RunEnds (Some stop) kept status note = (status ≡ (stop_reason stop).status) × (note ≡ (stop_reason stop).note)

-- where nothing failed; of a session all phases are answered, up to that at whose files it ends
abbrev pub EndsWith : Result Verdict Reason → ℕ → List ℕ → List ℕ → List ℕ → Type 0
EndsWith (Err why) status numbers text note = (status ≡ why.status) × (numbers ≡ []) × (text ≡ []) × (note ≡ why.note)
EndsWith (Ok (writes whole)) status numbers text note = (status ≡ 0) × (numbers ≡ []) × (text ≡ whole.out) × (note ≡ whole.notes)
EndsWith (Ok (runs files plan cache)) status numbers text note =
    AnsweredWhole files (run_of files plan) numbers text × RunEnds (run_of files plan).stop (cache_note files (run_of files plan) cache numbers) status note

-- Where reading failed or memory ran out: nothing was written, or the first phases of a session. `broke` says whether it broke off behind
-- so many phases of a plan.
abbrev pub BreaksOff : (Plan → ℕ → Type 0) → Result Verdict Reason → List ℕ → List ℕ → Type 0
BreaksOff broke (Err why) numbers text = (numbers ≡ []) × (text ≡ [])
BreaksOff broke (Ok (writes whole)) numbers text = (numbers ≡ []) × (text ≡ [])
BreaksOff broke (Ok (runs files plan cache)) numbers text = AnsweredWhere (broke plan) files (run_of files plan) numbers text

-- memory may run out behind any of them
abbrev pub Anywhere : Plan → ℕ → Type 0
Anywhere plan count = ⊤

-- Reading failed behind exactly so many phases: before all, at one of so many files of users and of the script, or at those of the phase
-- behind them. How many files were opened tells which.
abbrev pub FailedBehind : {F : Type 0} → ShelfOf F → ℕ → F → F → Plan → ℕ → Type 0
FailedBehind {F} shelf ahead old new plan count =
    ((count ≡ 0) × ((opened : ℕ) × (opened ≤ ahead) × (shelf.opens new ≡ many_more (shelf.opens old) opened)))
    ⊎ ((begun : F) × Keeps shelf old begun × (shelf.opens begun ≡ many_more (shelf.opens old) ahead) × FailsBehind shelf plan count begun new)

-- where writing failed: of which text a front was taken, and which note was to come with status 0
abbrev pub IsCut : Result Verdict Reason → List ℕ → List ℕ → List ℕ → Type 0
IsCut (Err why) numbers text note = ⊥
IsCut (Ok (writes whole)) numbers text note = (numbers ≡ []) × (text ≡ whole.out) × (note ≡ whole.notes)
IsCut (Ok (runs files plan cache)) numbers text note =
    (AnsweredInPart files (run_of files plan) numbers text × (note ≡ []))
    ⊎ (AnsweredWhole files (run_of files plan) numbers text × ((run_of files plan).stop ≡ None) × (note ≡ cache_note files (run_of files plan) cache numbers))

-- ---- the same of a verdict that is given where the shelf tells its files

abbrev pub told_verdict : Option Files → List (List ℕ) → Option (Result Verdict Reason)
told_verdict told words = option_map (verdict words) told

abbrev pub MayEnd : Option (Result Verdict Reason) → ℕ → List ℕ → List ℕ → List ℕ → Type 0
MayEnd None status numbers text note = ⊤
MayEnd (Some given) status numbers text note = EndsWith given status numbers text note

abbrev pub MayBreakOff : (Plan → ℕ → Type 0) → Option (Result Verdict Reason) → List ℕ → List ℕ → Type 0
MayBreakOff broke None numbers text = ⊤
MayBreakOff broke (Some given) numbers text = BreaksOff broke given numbers text

abbrev pub MayBeCut : Option (Result Verdict Reason) → List ℕ → List ℕ → List ℕ → Type 0
MayBeCut None numbers text note = ⊤
MayBeCut (Some given) numbers text note = IsCut given numbers text note

-- ---- what the two sinks took; out and notes are as the run begins, out' and notes' as it ends

module _ {K : Type 0} (sink : SinkOf K) where
  -- a note was taken, or a front of it where the sink's faults rose
  abbrev pub TakesNote : K → K → List ℕ → Type 0
  TakesNote old new note = Appends (sink.taken old) (sink.taken new) note ⊎ (Rose (sink.faults old) (sink.faults new) × TakesFront (sink.taken old) (sink.taken new) note)

  -- the note of a session, by what ended it
  abbrev pub IsRunNoted : Option Stop → K → K → List ℕ → Type 0
  IsRunNoted None old new note = Appends (sink.taken old) (sink.taken new) note
  IsRunNoted (Some stop) old new note = TakesNote old new note

  -- by the verdict: the note of status 0 was taken whole, and any other as a note is
  abbrev pub IsNoted : Result Verdict Reason → K → K → List ℕ → Type 0
  IsNoted (Err why) old new note = TakesNote old new note
  IsNoted (Ok (writes whole)) old new note = Appends (sink.taken old) (sink.taken new) note
  IsNoted (Ok (runs files plan cache)) old new note = IsRunNoted (run_of files plan).stop old new note

  abbrev pub MayBeNoted : Option (Result Verdict Reason) → K → K → List ℕ → Type 0
  MayBeNoted None old new note = TakesNote old new note
  MayBeNoted (Some given) old new note = IsNoted given old new note

  -- ---- ends by a verdict that may be given

  -- the whole text was taken, and its note
  pub record EndedBy (given : Option (Result Verdict Reason)) (status : ℕ) (numbers : List ℕ) (out out' notes notes' : K) : Type 0 where
    pub text : List ℕ
    pub note : List ℕ
    pub answer : MayEnd given status numbers text note
    pub taken : Appends (sink.taken out) (sink.taken out') text
    pub noted : MayBeNoted given notes notes' note

  -- the run broke off, and this note was taken
  pub record BrokenOffBy (broke : Plan → ℕ → Type 0) (given : Option (Result Verdict Reason)) (numbers : List ℕ) (out out' notes notes' : K) (note : List ℕ) : Type 0 where
    pub text : List ℕ
    pub answer : MayBreakOff broke given numbers text
    pub taken : Appends (sink.taken out) (sink.taken out') text
    pub noted : TakesNote notes notes' note

  -- A write failed: a front of the text was taken, and the note of the fault. Where the failed write was that of status 0's note, only a front of that.
  pub record TextEnds (out out' notes notes' : K) (text report : List ℕ) : Type 0 where
    pub cause : Rose (sink.faults out) (sink.faults out') ⊎ Rose (sink.faults notes) (sink.faults notes')
    pub taken : TakesFront (sink.taken out) (sink.taken out') text
    pub noted : TakesNote notes notes' write_fault_note ⊎ (Rose (sink.faults notes) (sink.faults notes') × TakesFront (sink.taken notes) (sink.taken notes') report)

  -- the same of the text that is asked for
  pub record WriteFaultedBy (given : Option (Result Verdict Reason)) (numbers : List ℕ) (out out' notes notes' : K) : Type 0 where
    pub text : List ℕ
    pub report : List ℕ
    pub answer : MayBeCut given numbers text report
    pub ends : TextEnds out out' notes notes' text report

  -- ---- the same of what the words ask of the files

  abbrev pub Ended : Option Files → List (List ℕ) → Outcome → K → K → K → K → Type 0
  Ended told words outcome = EndedBy (told_verdict told words) outcome.status outcome.numbers.items

  abbrev pub BrokenOff : (Plan → ℕ → Type 0) → Option Files → List (List ℕ) → Outcome → K → K → K → K → List ℕ → Type 0
  BrokenOff broke told words outcome = BrokenOffBy broke (told_verdict told words) outcome.numbers.items

  abbrev pub WriteFaulted : Option Files → List (List ℕ) → Outcome → K → K → K → K → Type 0
  WriteFaulted told words outcome = WriteFaultedBy (told_verdict told words) outcome.numbers.items
