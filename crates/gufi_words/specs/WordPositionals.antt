-- Positionals, each by its place among the words.
use Rattle.std.specs.Prelude.{ℕ, nat_lt, List, length, Option, Some, None, Result, Ok, Err}
use Rattle.std.specs.List.{slice_get}
use Rattle.std.specs.Option.{ok_or}
use Rattle.gufi_base.specs.Basics.{refuse}
use Rattle.gufi_words.specs.WordNumbers.{refused_at}
use Rattle.gufi_words.specs.WordValues.{Word}
use Rattle.gufi_words.specs.declared.word.WordError.{WordError}

abbrev pub needed_from : {A : Type 0} → (Word → Option A) → ℕ → Option Word → Result A WordError
needed_from read place None = Err (refused_at place)
needed_from read place (Some word) = ok_or (read word) (refused_at place)

-- what the word at a place spells, which must be there
abbrev pub needed : {A : Type 0} → (Word → Option A) → List Word → ℕ → Result A WordError
needed read words place = needed_from read place (slice_get words place)

abbrev pub perhaps_from : {A : Type 0} → (Word → Option A) → A → ℕ → Option Word → Result A WordError
perhaps_from read default place None = Ok default
perhaps_from read default place (Some word) = ok_or (read word) (refused_at place)

-- what the word at a place spells, or a default where there is none
abbrev pub perhaps : {A : Type 0} → (Word → Option A) → A → List Word → ℕ → Result A WordError
perhaps read default words place = perhaps_from read default place (slice_get words place)

-- there is no word at a place
abbrev pub no_more : List Word → ℕ → Result (Unit {0}) WordError
no_more words place = refuse (nat_lt place (length words)) (refused_at place)
