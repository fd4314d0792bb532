-- What reading a file to its end comes to, and where it comes from that it isn't read.
use Rattle.std.specs.Prelude.{◌≡◌, ℕ, ◌<◌, ◌≤◌, List, length, ⊤, Option}
use Rattle.gufi_io.specs.Causes.{Rose}
use Rattle.gufi_io.specs.declared.shelf.Shelf.{Ghosts as ShelfOf}
use Rattle.gufi_io.specs.Files.{Files, Holds, Lacks, IsReadUpTo, HoldsFront}
use Rattle.gufi_io.specs.declared.shelf.OpenFault.{OpenFault}
use Rattle.gufi_io.specs.declared.shelf.OpenFault.TheVariants as open_fault
use Rattle.gufi_io.specs.declared.whole.ReadError.{ReadError}
use Rattle.gufi_io.specs.declared.whole.ReadError.TheVariants.{NoFile, ReadFault, TooLong, Memory}

-- of the file of that name so many bytes were taken, and these are left
pub record IsTakenUpTo {T : Type 0} (has_taken : T → List ℕ → Type 0) (told : Option Files) (name : List ℕ) (left : Option (List ℕ)) (out : T) (size : ℕ) : Type 0 where
  pub bytes : List ℕ
  pub taken : has_taken out bytes
  pub count : length bytes ≡ size
  pub upto : IsReadUpTo told name bytes left

-- all of the file was taken, which has at most so many bytes
abbrev pub HasTakenFile : {T : Type 0} → (T → List ℕ → Type 0) → Option Files → List ℕ → ℕ → T → Type 0
HasTakenFile has_taken told name max out = (bytes : List ℕ) × has_taken out bytes × Holds told name bytes × (length bytes ≤ max)

-- a front of the file was taken, which has more bytes than so many
abbrev pub HasTakenTooMany : {T : Type 0} → (T → List ℕ → Type 0) → Option Files → List ℕ → ℕ → T → Type 0
HasTakenTooMany has_taken told name max out = (bytes : List ℕ) × has_taken out bytes × HoldsFront told name bytes × (max < length bytes)

abbrev pub read_error_of : OpenFault → ReadError
read_error_of open_fault.NoFile = NoFile
read_error_of open_fault.Failed = ReadFault

-- what each refusal to read says of the file of that name, where its bytes are told
abbrev pub ReadErrorTells : Option Files → List ℕ → ℕ → ReadError → Type 0
ReadErrorTells told name max NoFile = Lacks told name
ReadErrorTells told name max ReadFault = ⊤
ReadErrorTells told name max (TooLong bytes) = (max < length bytes.items) × HoldsFront told name bytes.items
ReadErrorTells told name max Memory = ⊤

-- each refusal to read comes only where its count rose
abbrev pub ReadErrorHasCause : {F : Type 0} → ShelfOf F → F → F → ReadError → Type 0
ReadErrorHasCause shelf old new NoFile = Rose (shelf.absents old) (shelf.absents new)
ReadErrorHasCause shelf old new ReadFault = Rose (shelf.faults old) (shelf.faults new)
ReadErrorHasCause shelf old new (TooLong bytes) = ⊤
ReadErrorHasCause shelf old new Memory = ⊤
