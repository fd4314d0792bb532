-- How a run ended, by its status, and what was told of it.
use Rattle.std.specs.Prelude.{◌≡◌, ◌⊎◌, ◌≤◌, ℕ, List, Option, Result}
use Rattle.std.specs.Io.KnownBytes.{Appends}
use Rattle.gufi_io.specs.Causes.{Rose}
use Rattle.gufi_io.specs.Files.{TakesFront}
use Rattle.gufi_io.specs.Kept.{Keeps}
use Rattle.gufi_io.specs.declared.shelf.Shelf.{Ghosts as ShelfOf}
use Rattle.gufi_io.specs.declared.sink.Sink.{Ghosts as SinkOf}
use Rattle.gufi_phases.specs.declared.load.Stop.{Stop}
use Rattle.gufi_phases.specs.declared.session.End.{End}
use Rattle.gufi_phases.specs.declared.session.End.TheVariants as ends
use Rattle.gufi_top.specs.Reasons.{Reason, stop_reason}
use Rattle.gufi_top.specs.Verdict.{Verdict}
use Rattle.gufi_top.specs.Ends.{IsVerdictStatus, EndedBy, Anywhere, FailedBehind, BrokenOffBy, WriteFaultedBy, TakesNote, read_fault_note, write_fault_note, memory_note}
use Rattle.gufi_top.specs.declared.halt.Halt.{Halt}
use Rattle.gufi_top.specs.declared.halt.Halt.TheVariants as halts

-- an end that the verdict allows, and one of the others only where its count rose; the files stay what they were, and no count fell
pub record HasRun {F K : Type 0} (shelf : ShelfOf F) (sink : SinkOf K) (ahead : ℕ) (given : Option (Result Verdict Reason)) (status : ℕ) (numbers : List ℕ) (before after : F) (out out' notes notes' : K) : Type 0 where
  pub ended : IsVerdictStatus status → EndedBy sink given status numbers out out' notes notes'
  pub absent : status ≡ 8 → Rose (shelf.absents before) (shelf.absents after)
  pub read_fault : status ≡ 3 → Rose (shelf.faults before) (shelf.faults after) × BrokenOffBy sink (FailedBehind shelf ahead before after) given numbers out out' notes notes' read_fault_note
  pub write_fault : status ≡ 4 → WriteFaultedBy sink given numbers out out' notes notes'
  pub memory : status ≡ 7 → BrokenOffBy sink Anywhere given numbers out out' notes notes' memory_note
  pub known : status ≤ 8
  pub kept : Keeps shelf before after

-- ---- the status that is told, and the note that was taken

module _ {K : Type 0} (sink : SinkOf K) where
  abbrev pub HaltTells : Halt → ℕ → K → K → Type 0
  HaltTells (halts.Refused reason note) status old new = (status ≡ reason) × TakesNote sink old new note.items
  HaltTells halts.ReadFault status old new = (status ≡ 3) × TakesNote sink old new read_fault_note
  HaltTells halts.Memory status old new = (status ≡ 7) × TakesNote sink old new memory_note

  -- words that are no command: they are refused for that with status 2, but the note of that takes memory
  abbrev pub RefusalTells : Reason → ℕ → K → K → Type 0
  RefusalTells why status old new = ((status ≡ 2) × TakesNote sink old new why.note) ⊎ ((status ≡ 7) × TakesNote sink old new memory_note)

  -- a refusal of the words that is one of P is told
  abbrev pub TellsOneOf : (Reason → Type 0) → K → K → Type 0
  TellsOneOf P old new = (why : Reason) × P why × (why.status ≡ 2) × TakesNote sink old new why.note

  -- where a session ends at the files of a phase; the note of that takes memory
  abbrev pub StopTells : Stop → ℕ → K → K → Type 0
  StopTells stop status old new =
      ((status ≡ (stop_reason stop).status) × TakesNote sink old new (stop_reason stop).note) ⊎ ((status ≡ 7) × TakesNote sink old new memory_note)

  -- where all phases of a session are written: this note was taken whole, or its write failed, or it took more memory than there is
  abbrev pub DoneTells : List ℕ → ℕ → K → K → Type 0
  DoneTells note status old new =
      ((status ≡ 0) × Appends (sink.taken old) (sink.taken new) note)
      ⊎ ((status ≡ 4) × Rose (sink.faults old) (sink.faults new) × TakesFront (sink.taken old) (sink.taken new) note)
      ⊎ ((status ≡ 7) × TakesNote sink old new memory_note)

  -- the note is that of an end at which all phases are written
  abbrev pub EndTells : List ℕ → End → ℕ → K → K → Type 0
  EndTells note ends.Done status old new = DoneTells note status old new
  EndTells note (ends.Stopped stop) status old new = StopTells stop status old new
  EndTells note ends.ReadFault status old new = (status ≡ 3) × TakesNote sink old new read_fault_note
  EndTells note ends.WriteFault status old new = (status ≡ 4) × TakesNote sink old new write_fault_note
  EndTells note ends.Full status old new = ⊥
  EndTells note ends.Memory status old new = (status ≡ 7) × TakesNote sink old new memory_note
