-- What a reader of a token gives.
use Rattle.std.specs.Prelude.{◌≡◌, ℕ, Result, Ok, Err}
use Rattle.gufi_base.specs.Basics.{capped_number}
use Rattle.gufi_select.specs.declared.fault.SelectError.{SelectError}
use Rattle.gufi_select.specs.declared.fault.SelectError.TheVariants as errors
use Rattle.gufi_select.specs.declared.fault.SelectKind.{SelectKind}
use Rattle.gufi_select.specs.declared.fault.TokenFault.{TokenFault}
use Rattle.gufi_select.specs.declared.fault.TokenFault.TheVariants.{Kind, Memory}

-- what a call returned is, seen so, what the definition gives, unless memory ran out
abbrev pub Gives : {A B : Type 0} → (A → B) → Result A TokenFault → Result B SelectKind → Type 0
Gives view (Ok x) given = given ≡ Ok (view x)
Gives view (Err (Kind kind)) given = given ≡ Err kind
Gives view (Err Memory) given = Unit {0}

-- the same where the fault has its offset
abbrev pub Tells : {A B : Type 0} → (A → B) → Result A SelectError → Result B SelectError → Type 0
Tells view (Ok x) given = given ≡ Ok (view x)
Tells view (Err errors.Memory) given = Unit {0}
Tells view (Err (errors.Fault at kind)) given = given ≡ Err (errors.Fault at kind)

-- the fault of the token at an offset
abbrev pub fault_of : ℕ → TokenFault → SelectError
fault_of offset (Kind kind) = errors.Fault (capped_number offset) kind
fault_of offset Memory = errors.Memory
