-- What a reader of a word gives.
use Rattle.std.specs.Prelude.{◌≡◌, ℕ, ◌+◌, Result, Ok, Err}
use Rattle.gufi_base.specs.Basics.{capped_number}
use Rattle.gufi_find.specs.declared.fault.FindError.{FindError}
use Rattle.gufi_find.specs.declared.fault.FindError.TheVariants as errors
use Rattle.gufi_find.specs.declared.fault.FindKind.{FindKind}
use Rattle.gufi_find.specs.declared.fault.WordFault.{WordFault}
use Rattle.gufi_find.specs.declared.fault.WordFault.TheVariants.{Kind, Memory}

-- what a call returned is, seen so, what the definition gives, unless memory ran out
abbrev pub Gives : {A B : Type 0} → (A → B) → Result A WordFault → Result B FindKind → Type 0
Gives view (Ok x) given = given ≡ Ok (view x)
Gives view (Err (Kind kind)) given = given ≡ Err kind
Gives view (Err Memory) given = Unit {0}

-- the fault of the word at a place
abbrev pub fault_of : ℕ → WordFault → FindError
fault_of place (Kind kind) = errors.Fault (capped_number (place + 1)) kind
fault_of place Memory = errors.Memory
