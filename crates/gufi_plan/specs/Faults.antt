-- Faults of an act as those of a script.
use Rattle.std.specs.Prelude.{ℕ}
use Rattle.gufi_find.specs.declared.fault.FindError.{FindError}
use Rattle.gufi_find.specs.declared.fault.FindError.TheVariants as find
use Rattle.gufi_select.specs.declared.fault.SelectError.{SelectError}
use Rattle.gufi_select.specs.declared.fault.SelectError.TheVariants as select
use Rattle.gufi_script.specs.declared.fault.ScriptKind.TheVariants as kinds
use Rattle.gufi_script.specs.declared.fault.ScriptError.{ScriptError}
use Rattle.gufi_script.specs.declared.fault.ScriptError.TheVariants as errors
use Rattle.gufi_plan.specs.declared.fault.ActFault.{ActFault}
use Rattle.gufi_plan.specs.declared.fault.ActFault.TheVariants.{Kind, Memory}

abbrev pub of_find : FindError → ActFault
of_find (find.Fault word kind) = Kind kinds.Query
of_find find.Memory = Memory

abbrev pub of_select : SelectError → ActFault
of_select (select.Fault offset kind) = Kind kinds.Query
of_select select.Memory = Memory

abbrev pub error_at : ℕ → ActFault → ScriptError
error_at line (Kind kind) = errors.Fault line kind
error_at line Memory = errors.Memory
