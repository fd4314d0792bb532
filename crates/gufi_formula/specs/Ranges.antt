-- Ranges of numbers as hints, cut to what a record can hold.
use Rattle.std.specs.Prelude.{ℕ, ℤ, pos, negsuc, int_le, int_lt, Bool, ◌&&◌, if◌then◌else◌}
use Rattle.gufi_base.specs.declared.hint.Hint.{Hint}
use Rattle.gufi_base.specs.declared.hint.Hint.TheVariants.{SizeIn, MtimeIn, UidIn, GidIn}

abbrev pub natural_part : ℤ → ℕ
natural_part (pos n) = n
natural_part (negsuc n) = 0

-- the nearest number that isn't below 0 and isn't above the greatest
abbrev pub nearest_natural : ℕ → ℤ → ℕ
nearest_natural most z = if int_lt z (pos 0) then 0 else if int_lt (pos most) z then most else natural_part z

-- some number from 0 to the greatest is in the range
abbrev pub has_naturals : ℕ → ℤ → ℤ → Bool
has_naturals most first last = int_le first (pos most) && int_le (pos 0) last

abbrev pub naturals_in : (ℕ → ℕ → Hint) → ℕ → ℤ → ℤ → Hint
naturals_in range most first last = if has_naturals most first last then range (nearest_natural most first) (nearest_natural most last) else range 1 0

abbrev pub least_time : ℤ
least_time = negsuc 9223372036854775807

abbrev pub greatest_time : ℤ
greatest_time = pos 9223372036854775807

abbrev pub nearest_time : ℤ → ℤ
nearest_time z = if int_lt z least_time then least_time else if int_lt greatest_time z then greatest_time else z

-- The records that have a number from the first to the last. Where no record can have one, the range is from 1 to 0.
abbrev pub sizes_in : ℤ → ℤ → Hint
sizes_in first last = naturals_in SizeIn 18446744073709551615 first last

abbrev pub uids_in : ℤ → ℤ → Hint
uids_in first last = naturals_in UidIn 4294967295 first last

abbrev pub gids_in : ℤ → ℤ → Hint
gids_in first last = naturals_in GidIn 4294967295 first last

abbrev pub times_in : ℤ → ℤ → Hint
times_in first last = if int_le first greatest_time && int_le least_time last then MtimeIn (nearest_time first) (nearest_time last) else MtimeIn (pos 1) (pos 0)
