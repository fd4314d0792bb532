-- A list of files as what each name holds.
use Rattle.std.specs.Prelude.{ℕ, Bool, true, ◌&&◌, is_none, List, [], ◌∷◌, slice_get, Option, Some, None, String, Vec, if◌then◌else◌}
use Rattle.std.specs.declared.alloc.Global.{Global}
use Rattle.std.specs.String.{string_bytes}
use Rattle.std.specs.Str.{bytes_eq}
use Rattle.gufi_io.specs.Files.{Files}

abbrev pub MemFiles : Type 0
MemFiles = List (String Global × Vec ℕ Global)

-- what the first file of that name holds
abbrev pub held : MemFiles → Files
held [] name = None
held (file ∷ files) name = if bytes_eq (string_bytes file.0) name then Some file.1.items else held files name

-- no name stands twice
abbrev pub names_differ : MemFiles → Bool
names_differ [] = true
names_differ (file ∷ files) = is_none (held files (string_bytes file.0)) && names_differ files

abbrev pub bytes_of : Option (String Global × Vec ℕ Global) → List ℕ
bytes_of None = []
bytes_of (Some file) = file.1.items

-- the bytes of the file at a place, none past the end
abbrev pub bytes_at : MemFiles → ℕ → List ℕ
bytes_at files i = bytes_of (slice_get files i)
