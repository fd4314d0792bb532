-- A run of `gufi_run` whose note is held, told, and then explained.
use Rattle.std.specs.Prelude.{◌≡◌, ◌≢◌, ◌⊎◌, ℕ, Bool, true, false, List, [], drop, is_some, Option, Some, None, IfSome, if◌then◌else◌}
use Rattle.std.specs.Io.KnownBytes.{Appends}
use Rattle.gufi_io.specs.Causes.{Rose}
use Rattle.gufi_io.specs.Files.{TakesFront, Holds}
use Rattle.gufi_io.specs.Kept.{Keeps}
use Rattle.gufi_io.specs.declared.shelf.Shelf.{Ghosts as ShelfOf}
use Rattle.gufi_io.specs.declared.sink.Sink.{Ghosts as SinkOf}
use Rattle.gufi_top.specs.Ends.{TakesNote}
use Rattle.gufi_top.specs.declared.ending.Outcome.{Outcome}
use Rattle.gufi_explain.specs.declared.rules.Rules.{Rules}
use Rattle.gufi_explain.specs.declared.shown.Wrapped.{Wrapped}
use Rattle.gufi_explain.specs.declared.explain.Detail.{Detail}
use Rattle.gufi_explain.specs.declared.explain.Detail.TheVariants.{Alone, Files}
use Rattle.gufi_explain.specs.Explained.{detail_of, explained}
use Rattle.gufi_help.specs.declared.channel.Channel.{Channel}
use Rattle.gufi_help.specs.declared.inserted.Inserted.{Inserted}
use Rattle.gufi_help.specs.declared.watched.Watched.{Ghosts as WatchedOf}
use Rattle.gufi_help.specs.Channels.{held_bytes}
use Rattle.gufi_help.specs.Inserted.{inserted_of}
use Rattle.gufi_help.specs.Runs.{HasRunWords, IsToldToCaller}

-- the words of a run, behind the option that tells of a wrapper's words
abbrev pub words_behind : List (List ℕ) → List (List ℕ)
words_behind words = if is_some (inserted_of words) then drop 1 words else words

-- what is to be explained of a run, where its words ask for that
abbrev pub asked_of : List (List ℕ) → Option Detail
asked_of words = detail_of (words_behind words)

-- where no words were put in, none is hidden
abbrev pub wrapped_of : Option Inserted → Wrapped
wrapped_of None = record { first = 1; count = 0 }
wrapped_of (Some inserted) = record { first = inserted.first; count = inserted.count }

-- names and contents of files are shown to whoever asks for them, through no wrapper
abbrev pub shows_files : Option Inserted → Detail → Bool
shows_files inserted Alone = false
shows_files None Files = true
shows_files (Some wrapper) Files = false

-- The text is what is told of a run that ended with this status and this note, by the shelf as it then was. What the file holds that was
-- opened last may have been read again for it.
pub record Tells {F : Type 0} (shelf : ShelfOf F) (watched : WatchedOf F) (rules : Rules) (inserted : Option Inserted) (detail : Detail) (words : List (List ℕ)) (status : ℕ) (note : List ℕ) (before after : F) (text : List ℕ) : Type 0 where
  pub again : Option (List ℕ)
  pub read : IfSome again (λ bytes. IfSome (watched.opened before) (λ name. Holds (shelf.files before) name bytes))
  pub told : text ≡ explained rules (wrapped_of inserted) (shows_files inserted detail) words status note (watched.opened before) (watched.failed_by before) again

module _ {K : Type 0} (sink : SinkOf (Channel K)) where
  -- How what is held of a note is told: as the caller counts, where words were put in; else as it is.
  abbrev pub IsTold : Option Inserted → ℕ → Channel K → ℕ → Channel K → Channel K → Type 0
  IsTold (Some inserted) = IsToldToCaller sink inserted
  IsTold None = λ ran kept status notes notes'.
      ((status ≡ ran) × (ran ≢ 0 → TakesNote sink notes notes' (held_bytes kept)) × (ran ≡ 0 → Appends (sink.taken notes) (sink.taken notes') (held_bytes kept)))
      ⊎ ((ran ≡ 0) × (status ≡ 4) × Rose (sink.faults notes) (sink.faults notes') × TakesFront (sink.taken notes) (sink.taken notes') (held_bytes kept))

  -- The explanation was taken as a note is, or there was no memory for it.
  pub record IsExplained {F : Type 0} (shelf : ShelfOf F) (watched : WatchedOf F) (rules : Rules) (inserted : Option Inserted) (detail : Detail) (words : List (List ℕ)) (status : ℕ) (note : List ℕ) (before after : F) (notes notes' : Channel K) : Type 0 where
    pub kept : Keeps shelf before after
    pub told : ((text : List ℕ) × Tells shelf watched rules inserted detail words status note before after text × TakesNote sink notes notes' text) ⊎ (notes' ≡ notes)

  pub record HasRunExplained {F : Type 0} (shelf : ShelfOf F) (watched : WatchedOf F) (rules : Rules) (inserted : Option Inserted) (detail : Detail) (words : List (List ℕ)) (outcome : Outcome) (before after : F) (out out' notes notes' : Channel K) : Type 0 where
    pub status : ℕ
    pub empty : Channel K
    pub kept : Channel K
    pub ended : F
    pub noted : Channel K
    pub nothing : (sink.taken empty ≡ Some []) × (sink.faults empty ≡ 0)
    pub ran : HasRunWords shelf sink words (record outcome { status = status }) before ended out out' empty kept
    pub told : IsTold inserted status kept outcome.status notes noted
    pub silent : (status ≡ 0) ⊎ (outcome.status ≢ status) → (notes' ≡ noted) × (after ≡ ended)
    pub explanation : status ≢ 0 → outcome.status ≡ status → IsExplained shelf watched rules inserted detail words status (held_bytes kept) ended after noted notes'
