-- What two bytes are worth as decimal digits before a separator.
use Rattle.std.specs.Prelude.{◌≡◌, ℕ, ◌+◌, ◌*◌, ◌/◌, ◌%◌, ◌<◌, ◌==◌, List, length, slice_index_or, if◌then◌else◌}
use Rattle.std.specs.Char.{is_digit, digit_value}

-- of a byte behind a digit: another digit makes a number below 100, and the separator 100 and the first digit
abbrev pub behind_digit : ℕ → ℕ → ℕ → ℕ
behind_digit separator digit second =
    if is_digit second 10 then digit * 10 + digit_value second
    else (if second == separator then 100 + digit else 255)

-- of two bytes: 254 where the separator comes first, and 255 where nothing is known
abbrev pub pair_value : ℕ → ℕ → ℕ → ℕ
pair_value separator first second =
    if is_digit first 10 then behind_digit separator (digit_value first) second
    else (if first == separator then 254 else 255)

-- the values of the first pairs, each at its first byte and 256 times its second
pub record AreFirstPairs (separator : ℕ) (values : List ℕ) (count : ℕ) : Type 0 where
  pub len : length values ≡ count
  pub each : (place : ℕ) → place < count → slice_index_or values place 0 ≡ pair_value separator (place % 256) (place / 256)
