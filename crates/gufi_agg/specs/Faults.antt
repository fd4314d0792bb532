-- The faults of an agg, as they are printed.
use Rattle.std.specs.Prelude.{◌≡◌, ℕ, List, Result, Ok, Err, codes}
use Rattle.gufi_select.specs.Faults.{select_kind_text}
use Rattle.gufi_agg.specs.declared.fault.AggKind.{AggKind}
use Rattle.gufi_agg.specs.declared.fault.AggKind.TheVariants.{Head, Tail, Inner}
use Rattle.gufi_agg.specs.declared.fault.AggError.{AggError}
use Rattle.gufi_agg.specs.declared.fault.AggError.TheVariants.{Fault, Memory}

-- an inner fault is told as a SELECT's
abbrev pub agg_kind_text : AggKind → List ℕ
agg_kind_text Head = codes "Head"
agg_kind_text Tail = codes "Tail"
agg_kind_text (Inner kind) = select_kind_text kind

-- what a call returned is what the definition gives, unless memory ran out
abbrev pub Tells : {A : Type 0} → Result A AggError → Result A AggError → Type 0
Tells (Ok x) given = given ≡ Ok x
Tells (Err Memory) given = Unit {0}
Tells (Err (Fault at kind)) given = given ≡ Err (Fault at kind)
