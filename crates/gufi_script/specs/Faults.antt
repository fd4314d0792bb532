-- Faults of a line as those of a script.
use Rattle.std.specs.Prelude.{ℕ}
use Rattle.gufi_script.specs.declared.fault.LineFault.{LineFault}
use Rattle.gufi_script.specs.declared.fault.LineFault.TheVariants as line_faults
use Rattle.gufi_script.specs.declared.fault.ScriptError.{ScriptError}
use Rattle.gufi_script.specs.declared.fault.ScriptError.TheVariants.{Fault, Memory}

abbrev pub error_at : ℕ → LineFault → ScriptError
error_at line (line_faults.Kind kind) = Fault line kind
error_at line line_faults.Memory = Memory
