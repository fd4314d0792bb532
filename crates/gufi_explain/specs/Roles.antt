-- Which part of a command a word plays: an option, the value of the option before it, or a word behind the options.
use Rattle.std.specs.Prelude.{ℕ, ◌+◌, not, ◌&&◌, List, [], ◌∷◌, take, drop, Option, Some, None, if◌then◌else◌, bytes_eq, codes}
use Rattle.std.specs.List.{slice_get}
use Rattle.gufi_words.specs.WordOptions.{before_equals, has_equals, is_positional}
use Rattle.gufi_explain.specs.declared.rules.Entry.{Entry}
use Rattle.gufi_explain.specs.declared.role.Role.{Role}
use Rattle.gufi_explain.specs.declared.role.Role.TheVariants.{Choice, Value, Behind}
use Rattle.gufi_explain.specs.Rules.{entry_of, takes_value}

-- what comes behind an option: its value, where it takes one that isn't in the same word
abbrev pub after_choice : List Entry → List ℕ → Role
after_choice options word = if not (has_equals word) && takes_value (entry_of options (before_equals word)) then Value else Choice

-- What comes behind a word that stands at a place. Words behind the options keep the place of the first of them.
abbrev pub after_word : List Entry → ℕ → Role → List ℕ → Role
after_word options place Choice word =
    if is_positional word then Behind place
    else if bytes_eq word (codes "--") then Behind (place + 1)
    else after_choice options word
after_word options place Value word = Choice
after_word options place (Behind first) word = Behind first

-- what comes behind words of which the first stands at a place
abbrev pub role_from : List Entry → ℕ → Role → List (List ℕ) → Role
role_from options place role [] = role
role_from options place role (word ∷ rest) = role_from options (place + 1) (after_word options place role word) rest

-- the role of a word, where no option may stand any more if it is a positional
abbrev pub role_with : ℕ → Role → Option (List ℕ) → Role
role_with place Choice None = Behind place
role_with place Choice (Some word) = if is_positional word then Behind place else Choice
role_with place Value word = Value
role_with place (Behind first) word = Behind first

-- the role of the word at a place, which may be missing, behind the name of a command with these options
unfoldable pub role_at : List Entry → List (List ℕ) → ℕ → Role
role_at options words place = role_with place (role_from options 1 Choice (drop 1 (take place words))) (slice_get words place)
