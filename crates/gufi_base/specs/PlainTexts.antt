-- Bytes that are names with single slashes between them, byte by byte.
use Rattle.std.specs.Prelude.{ℕ, ◌==◌, ◌||◌, Option, Some, None, if◌then◌else◌}
use Rattle.gufi_base.specs.declared.plain.Reached.{Reached}
use Rattle.gufi_base.specs.declared.plain.Reached.TheVariants.{Start, Dot, Inside}

-- where a component is after one more byte; None where it is no name by that byte, or begins with two dots
abbrev pub after : Reached → ℕ → Option Reached
after Start b = if b == 0 || b == 10 || b == 47 then None else if b == 46 then Some Dot else Some Inside
after Dot b = if b == 0 || b == 10 || b == 47 || b == 46 then None else Some Inside
after Inside b = if b == 0 || b == 10 then None else if b == 47 then Some Start else Some Inside
