-- What a reader has read of a stream.
use Rattle.std.specs.Prelude.{◌≡◌, ◌≢◌, ℕ, ◌==◌, Bool, not, List, ◌++◌, Option, Some, None, Result, Ok, Err}
use Rattle.std.specs.Global.{Vec}
use Rattle.std.specs.List.{flat_map, list_all}
use Rattle.gufi_base.specs.declared.record.Line.{Line}
use Rattle.gufi_base.specs.Basics.{◌>>◌}
use Rattle.gufi_base.specs.Paths.{Components}
use Rattle.gufi_line.specs.declared.fault.TraceError.{TraceError}
use Rattle.gufi_line.specs.declared.fault.TraceError.TheVariants.{Fault, Memory}
use Rattle.gufi_trace.specs.TraceText.{whole_lines, cut_line, lines_so_far}
use Rattle.gufi_line.specs.Progress.{lines_of, lines_from}

-- A reader: its delimiter, the root, the lines so far with the newest first, what has come of the next line, and the error that it answered.
pub record Reading : Type 0 where
  pub delim : ℕ
  pub root : Components
  pub lines : List Line
  pub rest : List ℕ
  pub failed : Option TraceError

-- No line of the stream is faulty. What the stream and any further lines give is what the further lines give behind those that are had.
pub record IsGood (r : Reading) (stream : List ℕ) : Type 0 where
  pub lines : (more : List (List ℕ)) → lines_of r.delim (whole_lines stream ++ more) ≡ lines_from r.delim (record { root = r.root; lines = r.lines }) more
  pub rest : cut_line stream ≡ r.rest

abbrev pub HasReadBy : Option TraceError → Reading → List ℕ → Type 0
HasReadBy None r stream = IsGood r stream
HasReadBy (Some (Fault fault)) r stream = (more : List (List ℕ)) → lines_of r.delim (whole_lines stream ++ more) ≡ Err (Fault fault)
HasReadBy (Some Memory) r stream = Unit {0}

-- The reader has read the stream: it has the stream's lines, or its least faulty line, or ran out of memory.
abbrev pub HasRead : Reading → List ℕ → Type 0
HasRead r stream = HasReadBy r.failed r stream

abbrev pub answer_of : Option TraceError → Result (Unit {0}) TraceError
answer_of None = Ok tt
answer_of (Some e) = Err e

-- what feeding answers: the least faulty whole line of what has come, where there is one
abbrev pub answer_so_far : ℕ → List ℕ → Result (Unit {0}) TraceError
answer_so_far delim stream = lines_so_far delim stream >> Ok tt

-- the lines that a call gave are those of the definition, unless memory ran out
abbrev pub GivesLines : Result (Vec Line) TraceError → Result (List Line) TraceError → Type 0
GivesLines (Ok lines) given = given ≡ Ok lines.items
GivesLines (Err e) given = e ≢ Memory → given ≡ Err e

-- a stream that comes in pieces
abbrev pub stream_of : List (List ℕ) → List ℕ
stream_of pieces = flat_map (λ piece. piece) pieces

-- no newline stands there
abbrev pub is_open : List ℕ → Bool
is_open bytes = list_all (λ b. not (b == 10)) bytes
