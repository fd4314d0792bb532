-- Files that are taken as they come.
use Rattle.std.specs.Prelude.{◌≡◌, ℕ, ◌≤◌, Bool, List, length, ⊤, Option, Some, None, Result}
use Rattle.std.specs.Io.Iter.{u64_saturate}
use Rattle.gufi_base.specs.Limits.{max_trace, max_image}
use Rattle.gufi_base.specs.Basics.{◌>>=◌, result_map_err}
use Rattle.gufi_base.specs.declared.record.Line.{Line}
use Rattle.gufi_io.specs.Files.{Files}
use Rattle.gufi_io.specs.Whole.{IsTakenUpTo}
use Rattle.gufi_trace.specs.TraceText.{trace_lines, of_line}
use Rattle.gufi_trace.specs.Reader.{Reading, HasRead}
use Rattle.gufi_image.specs.Reader.{Reading as ImageReading, HasRead as HasReadImageBytes}
use Rattle.gufi_top.specs.Reasons.{Reason, file_in, trace_reason, is_image}

-- the lines of the bytes of a trace, and those of the trace in a file
unfoldable pub lines_within : ℕ → List ℕ → List ℕ → Result (List Line) Reason
lines_within delim file bytes = result_map_err (λ e. trace_reason file (of_line e)) (trace_lines delim bytes)

unfoldable pub lines_in : ℕ → List ℕ → Files → Result (List Line) Reason
lines_in delim file files = file_in max_trace file files >>= lines_within delim file

-- the reader has read all of a file, which isn't too long
abbrev pub HasReadFile : Option Files → List ℕ → Reading → Type 0
HasReadFile None name reader = ⊤
HasReadFile (Some files) name reader = (bytes : List ℕ) × (files name ≡ Some bytes) × (length bytes ≤ max_trace) × HasRead reader bytes

-- so many bytes were read of a file, which the reader has read, and these are left
abbrev pub IsFedUpTo : Option Files → List ℕ → Option (List ℕ) → Reading → ℕ → Type 0
IsFedUpTo = IsTakenUpTo HasRead

-- the same of a reader of an image
abbrev pub HasReadImage : Option Files → List ℕ → ImageReading → Type 0
HasReadImage None name reader = ⊤
HasReadImage (Some files) name reader = (bytes : List ℕ) × (files name ≡ Some bytes) × (length bytes ≤ max_image) × HasReadImageBytes reader bytes

abbrev pub IsImageFedUpTo : Option Files → List ℕ → Option (List ℕ) → ImageReading → ℕ → Type 0
IsImageFedUpTo = IsTakenUpTo HasReadImageBytes

-- the file begins as an image does, or doesn't, where its bytes are told
abbrev pub BeginsAs : Option Files → List ℕ → Bool → Type 0
BeginsAs None name image = ⊤
BeginsAs (Some files) name image = (bytes : List ℕ) × (files name ≡ Some bytes) × (is_image bytes ≡ image)

-- how many bytes these are, capped at the greatest u64: what is counted of a file, which may be too long
abbrev pub IsCount : ℕ → List ℕ → Type 0
IsCount count bytes = count ≡ u64_saturate (length bytes)

-- the file has so many bytes, where they are told
abbrev pub HasBytes : Option Files → List ℕ → ℕ → Type 0
HasBytes None name count = ⊤
HasBytes (Some files) name count = (bytes : List ℕ) × (files name ≡ Some bytes) × (count ≡ length bytes)
