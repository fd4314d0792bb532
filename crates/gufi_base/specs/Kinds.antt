-- The types of files, and their letters.
use Rattle.std.specs.Prelude.{ℕ, Bool, true, false, ◌==◌, List, [], ◌∷◌, Option, Some, None, if◌then◌else◌}
use Rattle.gufi_base.specs.declared.record.Kind.{Kind}
use Rattle.gufi_base.specs.declared.record.Kind.TheVariants.{Block, Char, Dir, Link, Fifo, File, Socket}

-- the letter of a type in a trace and in `-type`: b c d l p f s
abbrev pub kind_letter : Kind → ℕ
kind_letter Block = 98
kind_letter Char = 99
kind_letter Dir = 100
kind_letter Link = 108
kind_letter Fifo = 112
kind_letter File = 102
kind_letter Socket = 115

abbrev pub kind_of_letter : ℕ → Option Kind
kind_of_letter c =
    if c == 98 then Some Block else if c == 99 then Some Char else if c == 100 then Some Dir else if c == 108 then Some Link
    else if c == 112 then Some Fifo else if c == 102 then Some File else if c == 115 then Some Socket else None

-- the type that a one-byte text names
abbrev pub read_kind : List ℕ → Option Kind
read_kind [] = None
read_kind (c ∷ []) = kind_of_letter c
read_kind (c ∷ d ∷ rest) = None

abbrev pub is_dir : Kind → Bool
is_dir Dir = true
is_dir _ = false

abbrev pub is_file : Kind → Bool
is_file File = true
is_file _ = false

abbrev pub is_link : Kind → Bool
is_link Link = true
is_link _ = false
