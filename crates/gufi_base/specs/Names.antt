-- File names (XBD 3.170 Filename), with the profile's limits.
use Rattle.std.specs.Prelude.{ℕ, Bool, not, ◌==◌, ◌&&◌, ◌||◌, nat_lt, nat_le, List, [], ◌∷◌, length, Result, Ok, Err, if◌then◌else◌, bytes_eq}
use Rattle.std.specs.List.{list_all}
use Rattle.gufi_base.specs.declared.name.NameFault.{NameFault}
use Rattle.gufi_base.specs.declared.name.NameFault.TheVariants.{Bad, Long}
use Rattle.gufi_base.specs.Limits.{max_name}
use Rattle.gufi_base.specs.Basics.{is_empty}

abbrev pub dot : List ℕ
dot = 46 ∷ []

abbrev pub dot_dot : List ℕ
dot_dot = 46 ∷ 46 ∷ []

-- 0x00 and newline stand in no path, and '/' in no name
abbrev pub is_path_byte : ℕ → Bool
is_path_byte b = not (b == 0) && not (b == 10)

abbrev pub is_name_byte : ℕ → Bool
is_name_byte b = is_path_byte b && not (b == 47)

-- a byte that may stand in a path, and is not the other one
abbrev pub is_path_byte_but : ℕ → ℕ → Bool
is_path_byte_but other b = is_path_byte b && not (b == other)

-- 1 to 255 bytes without 0x00, newline and '/', and neither "." nor ".."
abbrev pub is_name : List ℕ → Bool
is_name bytes = not (is_empty bytes) && nat_le (length bytes) max_name && list_all is_name_byte bytes
    && not (bytes_eq bytes dot || bytes_eq bytes dot_dot)

abbrev pub name_of : List ℕ → Result (List ℕ) NameFault
name_of bytes = if nat_lt max_name (length bytes) then Err Long else if is_name bytes then Ok bytes else Err Bad
