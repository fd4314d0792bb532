-- What a call of the code gives of a line.
use Rattle.std.specs.Prelude.{◌≡◌, Result, Ok, Err}
use Rattle.gufi_line.specs.declared.fault.TraceKind.{TraceKind}
use Rattle.gufi_line.specs.declared.fault.Refused.{Refused}
use Rattle.gufi_line.specs.declared.fault.Refused.TheVariants as refused

-- a refusal is that of the definition, unless memory ran out
abbrev pub Refuses : {B : Type 0} → Refused → Result B TraceKind → Type 0
Refuses refused.Memory given = Unit {0}
Refuses (refused.Fault kind) given = given ≡ Err kind

-- what a call gave, seen by view, is what the definition gives, unless memory ran out
abbrev pub Gives : {A B : Type 0} → (A → B) → Result A Refused → Result B TraceKind → Type 0
Gives view (Ok x) given = given ≡ Ok (view x)
Gives view (Err e) given = Refuses e given
