-- What the program's own calls give: the value of a step, or the reason for which it gives none.
use Rattle.std.specs.Prelude.{◌≡◌, ◌≢◌, ◌≤◌, ℕ, List, ◌++◌, ⊤, Option, Some, None, Result, Ok, Err}
use Rattle.gufi_io.specs.Calls.{many_more}
use Rattle.gufi_io.specs.Files.{Files}
use Rattle.gufi_io.specs.declared.shelf.Shelf.{Ghosts as ShelfOf}
use Rattle.gufi_io.specs.Causes.{Rose}
use Rattle.gufi_walk.specs.declared.refusal.Refusal.{Refusal}
use Rattle.gufi_walk.specs.declared.refusal.Refusal.TheVariants as refusals
use Rattle.gufi_top.specs.declared.halt.Halt.{Halt}
use Rattle.gufi_top.specs.declared.halt.Halt.TheVariants as halts
use Rattle.gufi_top.specs.Reasons.{Reason}
use Rattle.gufi_top.specs.Ends.{IsVerdictStatus}

abbrev pub Fails : {B : Type 0} → Halt → Result B Reason → Type 0
Fails (halts.Refused status note) step = step ≡ Err (record { status = status; note = note.items })
Fails halts.ReadFault step = ⊤
Fails halts.Memory step = ⊤

-- what a call returned, seen by view, is what the step gives, unless reading failed or memory ran out
abbrev pub Gives : {A B : Type 0} → (A → B) → Result A Halt → Result B Reason → Type 0
Gives view (Ok x) step = step ≡ Ok (view x)
Gives view (Err e) step = Fails e step

-- the same of a step over the files, where the shelf tells them
abbrev pub GivesOver : {A B : Type 0} → Option Files → (A → B) → Result A Halt → (Files → Result B Reason) → Type 0
GivesOver None view call step = ⊤
GivesOver (Some files) view call step = Gives view call (step files)

-- what a call appended is the reply that is given, unless memory ran out
abbrev pub AppendsReply : Result (Unit {0}) Refusal → List ℕ → List ℕ → Result (List ℕ) Refusal → Type 0
AppendsReply (Ok done) old new given = (text : List ℕ) × (given ≡ Ok text) × (new ≡ old ++ text)
AppendsReply (Err refusal) old new given = refusal ≢ refusals.Memory → given ≡ Err refusal

-- a status with which a run is refused
abbrev pub IsRefusal : ℕ → Type 0
IsRefusal status = IsVerdictStatus status × (status ≤ 8)

-- each reason comes only where its count rose
abbrev pub HaltHasCause : {F : Type 0} → ShelfOf F → F → F → Halt → Type 0
HaltHasCause shelf old new (halts.Refused status note) = IsRefusal status × (status ≡ 8 → Rose (shelf.absents old) (shelf.absents new))
HaltHasCause shelf old new halts.ReadFault = Rose (shelf.faults old) (shelf.faults new)
HaltHasCause shelf old new halts.Memory = ⊤

-- so many files were to be opened; where that halts, at most so many
abbrev pub Opens : {A F : Type 0} → ShelfOf F → Result A Halt → ℕ → F → F → Type 0
Opens shelf (Ok x) count old new = shelf.opens new ≡ many_more (shelf.opens old) count
Opens shelf (Err e) count old new = (opened : ℕ) × (opened ≤ count) × (shelf.opens new ≡ many_more (shelf.opens old) opened)

-- a reason that no shelf causes
abbrev pub IsOfBytes : Halt → Type 0
IsOfBytes (halts.Refused status note) = IsRefusal status × (status ≢ 8)
IsOfBytes halts.ReadFault = ⊥
IsOfBytes halts.Memory = ⊤

-- a reason that isn't of the words
abbrev pub IsPastWords : Halt → Type 0
IsPastWords (halts.Refused status note) = status ≢ 2
IsPastWords halts.ReadFault = ⊤
IsPastWords halts.Memory = ⊤

-- a reason of the words alone
abbrev pub IsOfWords : Halt → Type 0
IsOfWords (halts.Refused status note) = status ≡ 2
IsOfWords halts.ReadFault = ⊤
IsOfWords halts.Memory = ⊤

-- a reason of the words is one of P
abbrev pub OfWordsOnlyBy : (Reason → Type 0) → Halt → Type 0
OfWordsOnlyBy P (halts.Refused status note) = status ≡ 2 → P (record { status = status; note = note.items })
OfWordsOnlyBy P halts.ReadFault = ⊤
OfWordsOnlyBy P halts.Memory = ⊤
