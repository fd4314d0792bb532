-- What an answer of a loading step says of the files, and what loading does to a shelf.
use Rattle.std.specs.Prelude.{◌≡◌, ◌≤◌, ◌⊎◌, ℕ, ◌+◌, ⊤, List, [], ◌∷◌, length, Option, Some, None, Result, Ok, Err, Vec}
use Rattle.std.specs.declared.alloc.Global.{Global}
use Rattle.gufi_base.specs.Limits.{max_trace}
use Rattle.gufi_io.specs.Calls.{one_more}
use Rattle.gufi_io.specs.Causes.{Rose}
use Rattle.gufi_io.specs.Files.{Files, Holds}
use Rattle.gufi_io.specs.Kept.{Keeps}
use Rattle.gufi_io.specs.declared.shelf.Shelf.{Ghosts as ShelfOf}
use Rattle.gufi_phases.specs.declared.load.Stop.{Stop}
use Rattle.gufi_phases.specs.declared.load.LoadFault.{LoadFault}
use Rattle.gufi_phases.specs.declared.load.LoadFault.TheVariants.{Stopped, ReadFault, Memory}
use Rattle.gufi_phases.specs.Loads.{BreaksAt}
use Rattle.gufi_plan.specs.Plan.{Plan}
use Rattle.gufi_plan.specs.declared.act.PlannedAct.{PlannedAct}
use Rattle.gufi_session.specs.Run.{with_file, after_act, named_file}
use Rattle.gufi_session.specs.Loaded.{LoadedAct, loaded}

-- where the files end the session, so they do
abbrev pub IsStopOf : {A : Type 0} → Result A Stop → LoadFault → Type 0
IsStopOf is (Stopped stop) = is ≡ Err stop
IsStopOf is ReadFault = ⊤
IsStopOf is Memory = ⊤

-- The bytes are all that the file holds, and with them the phase has so many; or the file ends the session.
abbrev pub ReadsAs : ℕ → List ℕ → Option (List ℕ) → Result (Vec ℕ Global) LoadFault → Type 0
ReadsAs before file held (Ok bytes) = (held ≡ Some bytes.items) × (with_file before file held ≡ Ok (before + length bytes.items))
ReadsAs before file held (Err fault) = IsStopOf (with_file before file held) fault

-- The act is the one over the files, and the phase has so many bytes then; or its file ends the session.
abbrev pub ActLoadsAs : Files → ℕ → PlannedAct → Result (LoadedAct × ℕ) LoadFault → Type 0
ActLoadsAs files before act (Ok step) = (step.0 ≡ loaded files act) × (after_act files before (named_file act) ≡ Ok step.1)
ActLoadsAs files before act (Err fault) = IsStopOf (after_act files before (named_file act)) fault

-- ---- the states of a shelf, from `old` to `new`

-- A file was read whole; the files of its phase had so many bytes before it and have so many with it, which is within their limit.
pub record IsRead {F : Type 0} (shelf : ShelfOf F) (file : List ℕ) (before after : ℕ) (old new : F) : Type 0 where
  pub bytes : List ℕ
  pub held : Holds (shelf.files old) file bytes
  pub counted : after ≡ before + length bytes
  pub within : after ≤ max_trace
  pub opened : shelf.opens new ≡ one_more (shelf.opens old)
  pub kept : Keeps shelf old new

-- opening a file failed, or a read of it
pub record FailsToRead {F : Type 0} (shelf : ShelfOf F) (old new : F) : Type 0 where
  pub cause : Rose (shelf.faults old) (shelf.faults new)
  pub opened : shelf.opens new ≡ one_more (shelf.opens old)
  pub kept : Keeps shelf old new

module _ {F : Type 0} (shelf : ShelfOf F) where
  -- the file that an act names was read; for an act that names none nothing is done
  abbrev pub ActReads : Option (List ℕ) → ℕ → ℕ → F → F → Type 0
  ActReads None before after old new = (after ≡ before) × (new ≡ old)
  ActReads (Some file) before after old new = IsRead shelf file before after old new

  abbrev pub ActBreaks : Option (List ℕ) → F → F → Type 0
  ActBreaks None old new = ⊥
  ActBreaks (Some file) old new = FailsToRead shelf old new

  -- the files of acts were read in order
  unfoldable pub ActsRead : ℕ → List PlannedAct → F → F → Type 0
  ActsRead before [] old new = new ≡ old
  ActsRead before (act ∷ acts) old new = (after : ℕ) × (mid : F) × ActReads (named_file act) before after old mid × ActsRead after acts mid new

  -- some of them were read in order, and then the next failed to be
  unfoldable pub ActsBreak : ℕ → List PlannedAct → F → F → Type 0
  ActsBreak before [] old new = ⊥
  ActsBreak before (act ∷ acts) old new =
      ActBreaks (named_file act) old new ⊎ ((after : ℕ) × (mid : F) × ActReads (named_file act) before after old mid × ActsBreak after acts mid new)

  -- of a phase, whose files have no bytes before the first
  abbrev pub PhaseReads : List PlannedAct → F → F → Type 0
  PhaseReads phase = ActsRead 0 phase

  abbrev pub PhaseBreaks : List PlannedAct → F → F → Type 0
  PhaseBreaks phase = ActsBreak 0 phase

  -- The files of so many phases of a plan were read, phase by phase, and then those of the next one failed to be.
  abbrev pub FailsBehind : Plan → ℕ → F → F → Type 0
  FailsBehind plan count old new = BreaksAt PhaseReads PhaseBreaks plan count old new
