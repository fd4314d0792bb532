-- Words by their places, from 0 on, and by their numbers, from 1 on.
use Rattle.std.specs.Prelude.{ℕ, ◌+◌}
use Rattle.gufi_base.specs.Basics.{capped_number}
use Rattle.gufi_words.specs.declared.word.WordError.{WordError}
use Rattle.gufi_words.specs.declared.word.WordError.TheVariants.{Refused}

-- the number of the word at a place, as far as it can be named
abbrev pub number_at : ℕ → ℕ
number_at place = capped_number (place + 1)

-- the word at a place can't be taken, or there is none
abbrev pub refused_at : ℕ → WordError
refused_at place = Refused (number_at place)
