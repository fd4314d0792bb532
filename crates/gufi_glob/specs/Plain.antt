-- Bytes that match themselves alone, wherever they stand, and texts that end with some.
use Rattle.std.specs.Prelude.{ℕ, ◌-◌, Bool, not, ◌==◌, ◌&&◌, List, length, drop, bytes_eq}

abbrev pub is_plain_byte : ℕ → Bool
is_plain_byte b = not (b == 42) && not (b == 63) && not (b == 91) && not (b == 92)

abbrev pub ends_with : List ℕ → List ℕ → Bool
ends_with text tail = bytes_eq tail (drop (length text - length tail) text)
