-- The options of a command, which stand behind its name in any order, each at most once, and none beside one that excludes it.
use Rattle.std.specs.Prelude.{ℕ, ◌+◌, Bool, true, false, not, ◌==◌, ◌&&◌, ◌||◌, nat_lt, List, [], ◌∷◌, length, Option, Some, None, is_some, unwrap_or, Result, Ok, Err, if◌then◌else◌, bytes_eq, codes}
use Rattle.std.specs.Bool.{nat_eq}
use Rattle.std.specs.List.{starts_with, position_or_len, before_first, after_first}
use Rattle.gufi_base.specs.Delimiters.{default_delimiter}
use Rattle.gufi_base.specs.Basics.{refuse, ◌>>◌}
use Rattle.gufi_base.specs.Numbers.{read_u64, read_i64}
use Rattle.gufi_words.specs.WordNumbers.{refused_at}
use Rattle.gufi_words.specs.WordValues.{Word, read_delimiter, read_workers, read_cache, read_file, read_any}
use Rattle.gufi_words.specs.CommandNames.{option_named, takes_value, allows}
use Rattle.gufi_words.specs.declared.word.WordError.{WordError}
use Rattle.gufi_words.specs.declared.name.CommandName.{CommandName}
use Rattle.gufi_words.specs.declared.name.OptionName.{OptionName}
use Rattle.gufi_words.specs.declared.name.OptionName.TheVariants.{Passwd, Group, Delim, Limit, Workers, Now, Cache, Prefix, Long, All, Summary, Names, Escape, Header, Json}
use Rattle.gufi_words.specs.declared.option.Options.{Options}
use Rattle.gufi_words.specs.declared.option.Reading.{Reading}
use Rattle.gufi_words.specs.declared.option.Arguments.{Arguments}
use Rattle.gufi_words.specs.declared.option.Step.{Step}
use Rattle.gufi_words.specs.declared.option.Step.TheVariants.{Taken, Dropped, Positional, Refused}

abbrev pub no_options : Options
no_options = record { passwd = None; group = None; delim = None; limit = None; workers = None; time = None; cache = None; prefix = None; long = false; all = false; summary = false; names = false; escape = false; header = false; json = false }

abbrev pub has_option : Options → OptionName → Bool
has_option options Passwd = is_some options.passwd
has_option options Group = is_some options.group
has_option options Delim = is_some options.delim
has_option options Limit = is_some options.limit
has_option options Workers = is_some options.workers
has_option options Now = is_some options.time
has_option options Cache = is_some options.cache
has_option options Prefix = is_some options.prefix
has_option options Long = options.long
has_option options All = options.all
has_option options Summary = options.summary
has_option options Names = options.names
has_option options Escape = options.escape
has_option options Header = options.header
has_option options Json = options.json

-- an object a row has no columns to escape, and no line of names
abbrev pub excludes : Options → OptionName → Bool
excludes options Escape = options.json
excludes options Header = options.json
excludes options Json = options.escape || options.header
excludes options option = false

-- the options with one more, which is left out where its value can't be taken
abbrev pub put : Options → OptionName → Word → Options
put options Passwd value = record options { passwd = read_file value }
put options Group value = record options { group = read_file value }
put options Delim value = record options { delim = read_delimiter value }
put options Limit value = record options { limit = read_u64 value }
put options Workers value = record options { workers = read_workers value }
put options Now value = record options { time = read_i64 value }
put options Cache value = record options { cache = read_cache value }
put options Prefix value = record options { prefix = read_any value }
put options Long value = record options { long = true }
put options All value = record options { all = true }
put options Summary value = record options { summary = true }
put options Names value = record options { names = true }
put options Escape value = record options { escape = true }
put options Header value = record options { header = true }
put options Json value = record options { json = true }

-- what stands for an option that isn't given
abbrev pub delim_or_default : Options → ℕ
delim_or_default options = unwrap_or options.delim default_delimiter

abbrev pub limit_or_default : Options → ℕ
limit_or_default options = unwrap_or options.limit 0

abbrev pub workers_or_default : Options → ℕ
workers_or_default options = unwrap_or options.workers 1

abbrev pub cache_or_default : Options → ℕ
cache_or_default options = unwrap_or options.cache 0

-- no option yet
abbrev pub start : Reading
start = record { options = no_options; waiting = None }

-- a word up to its first '=', and what follows it
abbrev pub before_equals : Word → Word
before_equals word = before_first (λ b. b == 61) word

abbrev pub has_equals : Word → Bool
has_equals word = nat_lt (position_or_len (λ b. b == 61) word) (length word)

abbrev pub after_equals : Word → Option Word
after_equals word = if has_equals word then Some (after_first (λ b. b == 61) word) else None

-- "-" is a positional
abbrev pub is_positional : Word → Bool
is_positional word = not (starts_with nat_eq word (codes "-")) || bytes_eq word (codes "-")

-- the option is given this value
abbrev pub step_with : Options → OptionName → Word → Step
step_with options option value =
    if has_option (put options option value) option then Taken (record { options = put options option value; waiting = None }) else Refused

-- the option is named, with a value in the same word perhaps
abbrev pub step_named : Options → OptionName → Option Word → Step
step_named options option None = if takes_value option then Taken (record { options = options; waiting = Some option }) else step_with options option []
step_named options option (Some value) = if takes_value option then step_with options option value else Refused

-- an option of the command, which may stand once, beside none that excludes it
abbrev pub step_option : CommandName → Options → Option OptionName → Option Word → Step
step_option command options None value = Refused
step_option command options (Some option) value = if allows command option && not (has_option options option || excludes options option) then step_named options option value else Refused

-- a word comes, and no value is waited for
unfoldable pub step_free : CommandName → Options → Word → Step
step_free command options word =
    if is_positional word then Positional options
    else if bytes_eq word (codes "--") then Dropped options
    else step_option command options (option_named (before_equals word)) (after_equals word)

-- a word comes
abbrev pub step_waiting : CommandName → Options → Option OptionName → Word → Step
step_waiting command options (Some option) word = step_with options option word
step_waiting command options None word = step_free command options word

unfoldable pub step_at : CommandName → Reading → Word → Step
step_at command reading word = step_waiting command reading.options reading.waiting word

-- Words from a place on. A value that is waited for and doesn't come is missing at the end.
unfoldable pub read_options : CommandName → Reading → ℕ → List Word → Result Arguments WordError
read_options command reading place [] = refuse (is_some reading.waiting) (refused_at place) >> Ok (record { options = reading.options; first = place })
read_options command reading place (word ∷ rest) =
    elim (step_at command reading word) [
      | Taken next ↦ read_options command next (place + 1) rest
      | Dropped options ↦ Ok (record { options = options; first = place + 1 })
      | Positional options ↦ Ok (record { options = options; first = place })
      | Refused ↦ Err (refused_at place)
    ]
