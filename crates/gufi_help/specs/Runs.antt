-- What a run of `gufi_run` promises, as one record, and the same where words were put in.
use Rattle.std.specs.Prelude.{◌≡◌, ◌≢◌, ◌≤◌, ◌⊎◌, ℕ, List, [], Some, IfErr, IsTrue}
use Rattle.std.specs.Io.KnownBytes.{Appends}
use Rattle.gufi_io.specs.Causes.{Rose}
use Rattle.gufi_io.specs.Files.{TakesFront}
use Rattle.gufi_io.specs.Kept.{Keeps}
use Rattle.gufi_io.specs.declared.shelf.Shelf.{Ghosts as ShelfOf}
use Rattle.gufi_io.specs.declared.sink.Sink.{Ghosts as SinkOf}
use Rattle.gufi_top.specs.Reasons.{Reason}
use Rattle.gufi_top.specs.Verdict.{are_one_shot, command_in, files_ahead_of, MayRefuseWords}
use Rattle.gufi_top.specs.Ends.{IsVerdictStatus, Ended, WriteFaulted, BrokenOff, Anywhere, FailedBehind, TakesNote, read_fault_note, memory_note}
use Rattle.gufi_top.specs.Endings.{RefusalTells, TellsOneOf}
use Rattle.gufi_top.specs.Complete.{Completes}
use Rattle.gufi_top.specs.declared.ending.Outcome.{Outcome}
use Rattle.gufi_help.specs.declared.channel.Channel.{Channel}
use Rattle.gufi_help.specs.declared.inserted.Inserted.{Inserted}
use Rattle.gufi_help.specs.Channels.{held_bytes}
use Rattle.gufi_help.specs.Inserted.{renumbered, note_for_caller}

-- all that `gufi_run` promises, clause by clause; shelf, out and notes are as the run begins and as it ends
pub record HasRunWords {F K : Type 0} (shelf : ShelfOf F) (sink : SinkOf K) (words : List (List ℕ)) (outcome : Outcome) (before after : F) (out out' notes notes' : K) : Type 0 where
  pub ended : IsVerdictStatus outcome.status → Ended sink (shelf.files before) words outcome out out' notes notes'
  pub complete : Completes shelf sink words outcome.status outcome.numbers.items before after out out' notes notes'
  pub refused : IfErr (command_in words) (λ why. RefusalTells sink why outcome.status notes notes' × (outcome.numbers.items ≡ []) × (after ≡ before) × (out' ≡ out))
  pub refusal : outcome.status ≡ 2 → TellsOneOf sink (MayRefuseWords words) notes notes'
  pub known : outcome.status ≤ 8
  pub silent : IsTrue (are_one_shot words) → outcome.status ≢ 0 → outcome.status ≢ 4 → out' ≡ out
  pub kept : Keeps shelf before after
  pub absent : outcome.status ≡ 8 → Rose (shelf.absents before) (shelf.absents after)
  pub read_fault : outcome.status ≡ 3 → Rose (shelf.faults before) (shelf.faults after) × BrokenOff sink (FailedBehind shelf (files_ahead_of words) before after) (shelf.files before) words outcome out out' notes notes' read_fault_note
  pub write_fault : outcome.status ≡ 4 → WriteFaulted sink (shelf.files before) words outcome out out' notes notes'
  pub memory : outcome.status ≡ 7 → BrokenOff sink Anywhere (shelf.files before) words outcome out out' notes notes' memory_note

module _ {K : Type 0} (sink : SinkOf (Channel K)) (inserted : Inserted) where
  -- How what is held of a note is told, by the status of the run: with that status and as the caller counts; with status 4 where
  -- the note of status 0 can't be written whole; or the note of a word takes more memory than there is.
  abbrev pub IsToldToCaller : ℕ → Channel K → ℕ → Channel K → Channel K → Type 0
  IsToldToCaller ran kept status notes notes' =
      ((status ≡ ran) × (ran ≢ 0 → TakesNote sink notes notes' (note_for_caller inserted ran (held_bytes kept))) × (ran ≡ 0 → Appends (sink.taken notes) (sink.taken notes') (held_bytes kept)))
      ⊎ ((ran ≡ 0) × (status ≡ 4) × Rose (sink.faults notes) (sink.faults notes') × TakesFront (sink.taken notes) (sink.taken notes') (held_bytes kept))
      ⊎ ((ran ≡ 2) × (status ≡ 7) × TakesNote sink notes notes' memory_note)

  -- a run of `gufi_run` whose note is held, from nothing on, and then told to the caller
  pub record HasRunInserted {F : Type 0} (shelf : ShelfOf F) (words : List (List ℕ)) (outcome : Outcome) (before after : F) (out out' notes notes' : Channel K) : Type 0 where
    pub status : ℕ
    pub empty : Channel K
    pub kept : Channel K
    pub nothing : (sink.taken empty ≡ Some []) × (sink.faults empty ≡ 0)
    pub ran : HasRunWords shelf sink words (record outcome { status = status }) before after out out' empty kept
    pub told : IsToldToCaller status kept outcome.status notes notes'

  -- a refusal of the words that is one of P is told as the caller counts
  abbrev pub TellsCallerOneOf : (Reason → Type 0) → Channel K → Channel K → Type 0
  TellsCallerOneOf P old new = (why : Reason) × P why × (why.status ≡ 2) × TakesNote sink old new (renumbered inserted why.note)
