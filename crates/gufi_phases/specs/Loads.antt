-- What a plan comes to over the files of a shelf, and how a run of it ends.
use Rattle.std.specs.Prelude.{◌≡◌, ℕ, zero, suc, ◌+◌, ⊤, List, [], ◌∷◌, ◌++◌, ◌⊎◌, true, false, Option, Some, None, Result, Ok, Err, Vec}
use Rattle.std.specs.declared.alloc.Global.{Global}
use Rattle.std.specs.Io.KnownBytes.{Appends}
use Rattle.gufi_io.specs.Causes.{Rose}
use Rattle.gufi_io.specs.Files.{Files, TakesFront}
use Rattle.gufi_io.specs.declared.shelf.Shelf.{Ghosts as ShelfOf}
use Rattle.gufi_io.specs.declared.sink.Sink.{Ghosts as SinkOf}
use Rattle.gufi_phases.specs.declared.act.Act.{Act}
use Rattle.gufi_phases.specs.declared.answer.Row.{Row}
use Rattle.gufi_phases.specs.Lanes.{IsTold}
use Rattle.gufi_phases.specs.Sessions.{Answered}
use Rattle.gufi_phases.specs.declared.load.Stop.{Stop}
use Rattle.gufi_phases.specs.declared.load.Stop.TheVariants as stops
use Rattle.gufi_phases.specs.declared.load.LoadFault.{LoadFault}
use Rattle.gufi_phases.specs.declared.load.LoadFault.TheVariants as load
use Rattle.gufi_phases.specs.declared.publish.PhaseFault.{PhaseFault}
use Rattle.gufi_phases.specs.declared.publish.PhaseFault.TheVariants as phase_faults
use Rattle.gufi_phases.specs.declared.session.End.{End}
use Rattle.gufi_phases.specs.declared.session.End.TheVariants as ends

module _ {C Q : Type 0} where
  -- the acts that were loaded are those over the files, and where the files end the session, so they do
  abbrev pub LoadsAs : Result (List (Act C Q)) Stop → Result (Vec (Act C Q) Global) LoadFault → Type 0
  LoadsAs is (Ok acts) = is ≡ Ok acts.items
  LoadsAs is (Err (load.Stopped stop)) = is ≡ Err stop
  LoadsAs is (Err load.ReadFault) = ⊤
  LoadsAs is (Err load.Memory) = ⊤

  abbrev pub with_loaded : Result (List (Act C Q)) Stop → List (List (Act C Q)) → List (List (Act C Q))
  with_loaded (Ok acts) phases = acts ∷ phases
  with_loaded (Err stop) phases = []

  abbrev pub stop_behind : Result (List (Act C Q)) Stop → Option Stop → Option Stop
  stop_behind (Ok acts) stop = stop
  stop_behind (Err stop) later = Some stop

module _ {P C Q : Type 0} (loaded : P → Files → Result (List (Act C Q)) Stop) (files : Files) where
  -- the acts of the phases before the first at which the files end the session, and why they end it there
  unfoldable pub phases_over : List P → List (List (Act C Q))
  phases_over [] = []
  phases_over (p ∷ plan) = with_loaded (loaded p files) (phases_over plan)

  unfoldable pub stop_over : List P → Option Stop
  stop_over [] = None
  stop_over (p ∷ plan) = stop_behind (loaded p files) (stop_over plan)

-- how many acts there are, or how many of one kind
unfoldable pub total_size : {P : Type 0} → (P → ℕ) → List P → ℕ
total_size size [] = 0
total_size size (p ∷ plan) = size p + total_size size plan

-- ---- causes: each end comes only where its count rose

module _ {F : Type 0} (shelf : ShelfOf F) (old new : F) where
  abbrev pub StopHasCause : Stop → Type 0
  StopHasCause (stops.NoFile file) = Rose (shelf.absents old) (shelf.absents new)
  StopHasCause (stops.TooLong file) = ⊤

  abbrev pub LoadFaultHasCause : LoadFault → Type 0
  LoadFaultHasCause (load.Stopped stop) = StopHasCause stop
  LoadFaultHasCause load.ReadFault = Rose (shelf.faults old) (shelf.faults new)
  LoadFaultHasCause load.Memory = ⊤

  abbrev pub EndHasCause : {K : Type 0} → SinkOf K → K → K → End → Type 0
  EndHasCause sink out out' ends.Done = ⊤
  EndHasCause sink out out' (ends.Stopped stop) = StopHasCause stop
  EndHasCause sink out out' ends.ReadFault = Rose (shelf.faults old) (shelf.faults new)
  EndHasCause sink out out' ends.WriteFault = Rose (sink.faults out) (sink.faults out')
  EndHasCause sink out out' ends.Full = ⊤
  EndHasCause sink out out' ends.Memory = ⊤

-- ---- the states of a shelf: `reads` says whether reading a phase's files leads from one to another, `breaks` whether it fails there

-- where reading failed, so it did
abbrev pub BreaksIf : Type 0 → LoadFault → Type 0
BreaksIf broke load.ReadFault = broke
BreaksIf broke fault = ⊤

module _ {P F : Type 0} (reads breaks : P → F → F → Type 0) where
  -- From the first state on the files of so many phases were read, and those of the next one failed to be, which led to the last.
  unfoldable pub BreaksAt : List P → ℕ → F → F → Type 0
  BreaksAt [] count old new = ⊥
  BreaksAt (p ∷ plan) zero old new = breaks p old new
  BreaksAt (p ∷ plan) (suc count) old new = (mid : F) × reads p old mid × BreaksAt plan count mid new

-- where a phase isn't written, a write fault comes only where its count rose
abbrev pub CutHasCause : ℕ → ℕ → End → Type 0
CutHasCause faults faults' ends.WriteFault = Rose faults faults'
CutHasCause faults faults' end = ⊤

-- how a phase that isn't loaded ends a session
abbrev pub end_of : LoadFault → End
end_of (load.Stopped stop) = ends.Stopped stop
end_of load.ReadFault = ends.ReadFault
end_of load.Memory = ends.Memory

-- how one that isn't carried out does
abbrev pub end_of_phase : PhaseFault → End
end_of_phase phase_faults.Full = ends.Full
end_of_phase phase_faults.Memory = ends.Memory

-- ---- what was written

-- the text was taken, or a front of it where a write failed
abbrev pub TakesText : End → Option (List ℕ) → Option (List ℕ) → List ℕ → Type 0
TakesText ends.WriteFault out out' text = TakesFront out out' text
TakesText end out out' text = Appends out out' text

module _ {C Q : Type 0} (rows : List Row) (lines : List (Vec ℕ Global)) (acts : List (Act C Q)) (numbers numbers' : List ℕ) (out out' : Option (List ℕ)) where
  -- the acts are told by the rows and lines, and the numbers of their asks stand behind the others
  abbrev pub AddsTold : ℕ → List ℕ → Type 0
  AddsTold hits text = (own : List ℕ) × IsTold rows lines acts own hits text × (numbers' ≡ numbers ++ own)

  -- the text of the acts was taken
  abbrev pub IsWritten : ℕ → Type 0
  IsWritten hits = (text : List ℕ) × Appends out out' text × AddsTold hits text

  -- Where a write failed a front of the text was taken, and where memory was wanting nothing or all.
  abbrev pub IsCutOff : End → Type 0
  IsCutOff ends.WriteFault = (hits : ℕ) × (text : List ℕ) × TakesFront out out' text × AddsTold hits text
  IsCutOff ends.Memory = ((numbers' ≡ numbers) × (out' ≡ out)) ⊎ ((hits : ℕ) × IsWritten hits)
  IsCutOff end = ⊥

module _ {T C Q : Type 0} (outcome : C → Option T → Result T (List ℕ)) (line : C → ℕ → Result ℕ (List ℕ) → List ℕ) (reply : Q → ℕ → ℕ → Option T → List ℕ) where
  -- Where nothing failed, all phases are answered, up to that at which the files end the session. Where reading failed, exactly those
  -- before the one whose files it failed at; else some of the first. `broke` says whether it failed behind so many phases.
  abbrev pub EndsWith : List (List (Act C Q)) → Option Stop → (ℕ → Type 0) → End → List ℕ → List ℕ → Type 0
  EndsWith phases stop broke ends.Done numbers text = (stop ≡ None) × Answered outcome line reply phases true numbers text
  EndsWith phases stop broke (ends.Stopped why) numbers text = (stop ≡ Some why) × Answered outcome line reply phases true numbers text
  EndsWith phases stop broke ends.ReadFault numbers text = (part : Answered outcome line reply phases false numbers text) × broke part.count
  EndsWith phases stop broke end numbers text = Answered outcome line reply phases false numbers text

module _ {P T C Q : Type 0} (outcome : C → Option T → Result T (List ℕ)) (line : C → ℕ → Result ℕ (List ℕ) → List ℕ) (reply : Q → ℕ → ℕ → Option T → List ℕ) (loaded : P → Files → Result (List (Act C Q)) Stop) where
  -- A run over what a shelf tells: the output took its text, and where the files are told it is that of the phases over them.
  pub record Ran (told : Option Files) (plan : List P) (broke : ℕ → Type 0) (end : End) (numbers : List ℕ) (out out' : Option (List ℕ)) : Type 0 where
    pub text : List ℕ
    pub answer : (files : Files) → told ≡ Some files → EndsWith outcome line reply (phases_over loaded files plan) (stop_over loaded files plan) broke end numbers text
    pub taken : TakesText end out out' text
