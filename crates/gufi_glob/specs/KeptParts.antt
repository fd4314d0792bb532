-- How the program keeps the parts of a pattern.
use Rattle.std.specs.Prelude.{ℕ, Bool, true, false, List, map}
use Rattle.gufi_glob.specs.declared.part.Part.{Part as Kept}
use Rattle.gufi_glob.specs.declared.part.Part.TheVariants as kept
use Rattle.gufi_glob.specs.Parts.{Part, any_text, one_byte, byte_in, only}
use Rattle.gufi_glob.specs.Patterns.{is_among}

-- the part that is kept
abbrev pub part_of : Kept → Part
part_of kept.AnyText = any_text
part_of kept.OneByte = one_byte
part_of (kept.Byte b) = only b
part_of (kept.ByteIn members) = byte_in members.complement members.ranges.items

abbrev pub parts_of : List Kept → List Part
parts_of parts = map part_of parts

abbrev pub is_any_text : Part → Bool
is_any_text any_text = true
is_any_text _ = false

-- whether the part is one byte, and matches this one
abbrev pub takes : Part → ℕ → Bool
takes any_text b = false
takes one_byte b = true
takes (byte_in complement ranges) b = is_among complement ranges b
