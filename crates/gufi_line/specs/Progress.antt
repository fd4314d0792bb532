-- Reading on behind the lines that a reader has.
use Rattle.std.specs.Prelude.{◌≡◌, ℕ, List, [], ◌∷◌, Result, Err}
use Rattle.gufi_base.specs.declared.record.Line.{Line}
use Rattle.gufi_base.specs.Paths.{Components}
use Rattle.gufi_line.specs.declared.fault.TraceError.{TraceError}
use Rattle.gufi_line.specs.declared.fault.TraceError.TheVariants.{Fault, Memory}
use Rattle.gufi_line.specs.declared.lines.Progress.{Progress}
use Rattle.gufi_line.specs.LineText.{root_of, read_lines}

-- the root behind earlier lines, where the first line is still to come if there are none
abbrev pub root_behind : List Line → Components → ℕ → List (List ℕ) → Components
root_behind [] root delim texts = root_of delim texts
root_behind (line ∷ earlier) root delim texts = root

-- the lines that are had, with those of the further texts
abbrev pub lines_from : ℕ → Progress → List (List ℕ) → Result (List Line) TraceError
lines_from delim known texts = read_lines delim (root_behind known.lines known.root delim texts) known.lines texts

-- the lines of whole lines from the first on
abbrev pub lines_of : ℕ → List (List ℕ) → Result (List Line) TraceError
lines_of delim texts = read_lines delim (root_of delim texts) [] texts

-- an error is that of the definition, unless memory ran out
abbrev pub Stops : {B : Type 0} → TraceError → Result B TraceError → Type 0
Stops Memory given = Unit {0}
Stops (Fault fault) given = given ≡ Err (Fault fault)
