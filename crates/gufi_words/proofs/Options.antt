-- Options that are read word by word.
use Rattle.std.proofs.Common.{◌≡◌, ℕ, ◌+◌, ◌<◌, ◌≤◌, List, [], ◌∷◌, map, length, drop, get_or, refl, sym, ap, ◌∙◌}
use Rattle.std.specs.Prelude.{Some, None, Result, Ok, Err, String}
use Rattle.std.specs.declared.alloc.Global.{Global}
use Rattle.std.specs.String.{string_bytes}
use Rattle.std.proofs.lemmas.List.{drop_more, drop_all, drop-map}
use Rattle.gufi_words.specs.WordTexts.{texts}
use Rattle.gufi_words.specs.WordNumbers.{refused_at}
use Rattle.gufi_words.specs.WordOptions.{step_at, read_options}
use Rattle.gufi_words.specs.declared.word.WordError.{WordError}
use Rattle.gufi_words.specs.declared.name.CommandName.{CommandName}
use Rattle.gufi_words.specs.declared.name.OptionName.{OptionName}
use Rattle.gufi_words.specs.declared.option.Options.{Options}
use Rattle.gufi_words.specs.declared.option.Reading.{Reading}
use Rattle.gufi_words.specs.declared.option.Arguments.{Arguments}
use Rattle.gufi_words.specs.declared.option.Step.{Step}
use Rattle.gufi_words.specs.declared.option.Step.TheVariants.{Taken, Dropped, Positional, Refused}

-- what is read from a place on, by what the word there does
abbrev pub after_step : CommandName → ℕ → List (List ℕ) → Step → Result Arguments WordError
after_step command place rest (Taken next) = read_options command next (place + 1) rest
after_step command place rest (Dropped options) = Ok (record { options = options; first = place + 1 })
after_step command place rest (Positional options) = Ok (record { options = options; first = place })
after_step command place rest Refused = Err (refused_at place)

pub read_step : (command : CommandName) (reading : Reading) (place : ℕ) (word : List ℕ) (rest : List (List ℕ)) → read_options command reading place (word ∷ rest) ≡ after_step command place rest (step_at command reading word)
unfolding read_options
read_step command reading place word rest = elim (step_at command reading word) as (λ s. elim s as (λ _. Result Arguments WordError) [
  | Taken next ↦ read_options command next (place + 1) rest
  | Dropped options ↦ Ok (record { options = options; first = place + 1 })
  | Positional options ↦ Ok (record { options = options; first = place })
  | Refused ↦ Err (refused_at place)
] ≡ after_step command place rest s) [ Taken next ↦ refl | Dropped options ↦ refl | Positional options ↦ refl | Refused ↦ refl ]

pub texts_more : (words : List (String Global)) (place : ℕ) (d : String Global) → place < length words → drop place (texts words) ≡ string_bytes (get_or words place d) ∷ drop (place + 1) (texts words)
texts_more words place d inside = drop-map string_bytes place words ∙ ap (map string_bytes) (drop_more words place d inside) ∙ ap (λ (ws : List (List ℕ)). string_bytes (get_or words place d) ∷ ws) (sym (drop-map string_bytes (place + 1) words))

read_at : (command : CommandName) (reading : Reading) (place : ℕ) (words : List (String Global)) (d : String Global) (step : Step) → place < length words → step ≡ step_at command reading (string_bytes (get_or words place d))
    → read_options command reading place (drop place (texts words)) ≡ after_step command place (drop (place + 1) (texts words)) step
read_at command reading place words d step inside is =
    ap (read_options command reading place) (texts_more words place d inside) ∙ read_step command reading place (string_bytes (get_or words place d)) (drop (place + 1) (texts words))
    ∙ ap (after_step command place (drop (place + 1) (texts words))) (sym is)

pub read_taken : (command : CommandName) (reading : Reading) (place : ℕ) (words : List (String Global)) (d : String Global) (next : Reading) → place < length words → Taken next ≡ step_at command reading (string_bytes (get_or words place d))
    → read_options command reading place (drop place (texts words)) ≡ read_options command next (place + 1) (drop (place + 1) (texts words))
read_taken command reading place words d next inside is = read_at command reading place words d (Taken next) inside is

pub read_dropped : (command : CommandName) (reading : Reading) (place : ℕ) (words : List (String Global)) (d : String Global) (options : Options) → place < length words → Dropped options ≡ step_at command reading (string_bytes (get_or words place d))
    → read_options command reading place (drop place (texts words)) ≡ Ok (record { options = options; first = place + 1 })
read_dropped command reading place words d options inside is = read_at command reading place words d (Dropped options) inside is

pub read_positional : (command : CommandName) (reading : Reading) (place : ℕ) (words : List (String Global)) (d : String Global) (options : Options) → place < length words → Positional options ≡ step_at command reading (string_bytes (get_or words place d))
    → read_options command reading place (drop place (texts words)) ≡ Ok (record { options = options; first = place })
read_positional command reading place words d options inside is = read_at command reading place words d (Positional options) inside is

pub read_refused : (command : CommandName) (reading : Reading) (place : ℕ) (words : List (String Global)) (d : String Global) → place < length words → Refused ≡ step_at command reading (string_bytes (get_or words place d))
    → read_options command reading place (drop place (texts words)) ≡ Err (refused_at place)
read_refused command reading place words d inside is = read_at command reading place words d Refused inside is

at_end : (command : CommandName) (reading : Reading) (place : ℕ) (words : List (String Global)) → length words ≤ place → read_options command reading place (drop place (texts words)) ≡ read_options command reading place []
at_end command reading place words past = ap (read_options command reading place) (drop-map string_bytes place words ∙ ap (map string_bytes) (drop_all place words past))

pub read_end_waiting : (command : CommandName) (reading : Reading) (option : OptionName) (place : ℕ) (words : List (String Global)) → length words ≤ place → reading.waiting ≡ Some option
    → read_options command reading place (drop place (texts words)) ≡ Err (refused_at place)
unfolding read_options
read_end_waiting command reading option place words past waits = at_end command reading place words past ∙ rw waits refl

pub read_end : (command : CommandName) (reading : Reading) (place : ℕ) (words : List (String Global)) → length words ≤ place → reading.waiting ≡ None
    → read_options command reading place (drop place (texts words)) ≡ Ok (record { options = reading.options; first = place })
unfolding read_options
read_end command reading place words past waits = at_end command reading place words past ∙ rw waits refl

pub ruleset reading_options = (read_taken, read_dropped, read_positional, read_refused, read_end_waiting, read_end)
