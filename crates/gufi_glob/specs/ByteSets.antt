-- A set of bytes as 256 bits, in words of 64.
use Rattle.std.specs.Prelude.{ℕ, ◌/◌, ◌%◌, Bool, ◌==◌, List, slice_index}
use Rattle.std.specs.Int.{bit_at}

abbrev pub has_byte : List ℕ → ℕ → Bool
has_byte words b = bit_at (slice_index words (b / 64)) (b % 64) == 1
