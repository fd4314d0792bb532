-- The parts of a written trace.
use Rattle.std.specs.Prelude.{◌≡◌, ◌≢◌, ℕ, Bool, ◌||◌, List, ◌++◌, nat_lt, Result, Ok, Err}
use Rattle.std.specs.Global.{Vec}
use Rattle.std.specs.List.{flat_map, list_any}
use Rattle.gufi_base.specs.declared.record.Rec.{Rec}
use Rattle.gufi_base.specs.Paths.{Components, is_too_long}
use Rattle.gufi_line.specs.TraceRows.{row_line, row_holds}
use Rattle.gufi_tree.specs.declared.tree.Entry.{Entry}
use Rattle.gufi_tree.specs.Tree.{Directory, own_rows}
use Rattle.gufi_trace.specs.declared.writer.WriteTraceFault.{WriteTraceFault}
use Rattle.gufi_trace.specs.declared.writer.WriteTraceFault.TheVariants.{Memory}

-- the directory of these parts
abbrev pub directory : Components → Rec → List Entry → Directory
directory path rec entries = record { path = path; rec = rec; entries = entries }

-- a row of the directory holds the delimiter, and one is too long; its lines
abbrev pub own_holds : ℕ → Directory → Bool
own_holds delim dir = list_any (row_holds delim) (own_rows dir)

abbrev pub own_too_long : Components → Directory → Bool
own_too_long root dir = list_any (λ row. is_too_long (root ++ row.path)) (own_rows dir)

abbrev pub own_text : ℕ → Components → Directory → List ℕ
own_text delim root dir = flat_map (row_line delim root) (own_rows dir)

-- a path of so many names and bytes
abbrev pub is_over : ℕ → ℕ → Bool
is_over names bytes = nat_lt 256 names || nat_lt 4096 bytes

-- the text that a call gave is that of the definition, unless memory ran out
abbrev pub GivesText : Result (Vec ℕ) WriteTraceFault → Result (List ℕ) WriteTraceFault → Type 0
GivesText (Ok out) given = given ≡ Ok out.items
GivesText (Err e) given = e ≢ Memory → given ≡ Err e
