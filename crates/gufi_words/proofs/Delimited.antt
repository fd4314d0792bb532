-- The delimiter that words give may delimit.
use Rattle.std.proofs.Common.{◌≡◌, ℕ, ◌+◌, true, false, Bool, cond, List, [], ◌∷◌, drop, refl, sym, subst}
use Rattle.std.specs.Prelude.{⊤, length, Option, Some, None, is_some, ok_or, Result, Ok, Err, bytes_eq, codes}
use Rattle.gufi_base.specs.Delimiters.{is_delimiter, may_delimit, default_delimiter}
use Rattle.gufi_base.specs.Basics.{◌>>=◌, ◌>>◌, refuse}
use Rattle.gufi_base.specs.Numbers.{read_u32}
use Rattle.gufi_words.specs.CommandNames.{command_named, option_named, takes_value}
use Rattle.gufi_words.specs.WordNumbers.{refused_at}
use Rattle.gufi_words.specs.WordValues.{Word, read_delimiter, read_count, read_report, read_file, read_start, read_gids, read_any}
use Rattle.gufi_words.specs.WordPositionals.{needed, perhaps, no_more}
use Rattle.gufi_words.specs.WordOptions.{has_option, put, delim_or_default, limit_or_default, workers_or_default, cache_or_default, start, before_equals, after_equals, is_positional, step_with, step_named, step_option, step_free, step_waiting, step_at, read_options}
use Rattle.gufi_words.specs.CommandWords.{common_of, walk_of, trace2index_of, rollup_of, index2trace_of, info_of, refresh_of, query_of, agg_of, find_of, du_of, ls_of, stat_of, stats_of, diff_of, session_of, gen_of, command_of, read_words, is_delimited}
use Rattle.gufi_words.specs.declared.word.WordError.{WordError}
use Rattle.gufi_words.specs.declared.name.CommandName.{CommandName}
use Rattle.gufi_words.specs.declared.name.CommandName.TheVariants as names
use Rattle.gufi_words.specs.declared.name.OptionName.{OptionName}
use Rattle.gufi_words.specs.declared.name.OptionName.TheVariants as options
use Rattle.gufi_words.specs.declared.option.Options.{Options}
use Rattle.gufi_words.specs.declared.option.Reading.{Reading}
use Rattle.gufi_words.specs.declared.option.Arguments.{Arguments}
use Rattle.gufi_words.specs.declared.option.Step.{Step}
use Rattle.gufi_words.specs.declared.option.Step.TheVariants.{Taken, Dropped, Positional, Refused}
use Rattle.gufi_words.specs.declared.command.Command.{Command}
use Rattle.gufi_words.specs.declared.command.Command.TheVariants as commands
use Rattle.gufi_words.proofs.Options.{after_step, read_step}

-- ---- options

abbrev Delimits : Options → Type 0
Delimits given = may_delimit (delim_or_default given) ≡ true

abbrev StepDelimits : Step → Type 0
StepDelimits (Taken next) = Delimits next.options
StepDelimits (Dropped given) = Delimits given
StepDelimits (Positional given) = Delimits given
StepDelimits Refused = ⊤

abbrev ReadDelimits : Result Arguments WordError → Type 0
ReadDelimits (Ok arguments) = Delimits arguments.options
ReadDelimits (Err e) = ⊤

either : (b : Bool) (x y : Step) → StepDelimits x → StepDelimits y → StepDelimits (cond b x y)
either true x y h k = h
either false x y h k = k

-- a byte that is taken
one_byte : (given : Options) (byte : ℕ) (b : Bool) → is_delimiter byte ≡ b → Delimits (record given { delim = cond b (Some byte) None })
one_byte given byte true h = rw h refl
one_byte given byte false h = refl

put_delimits : (given : Options) (name : OptionName) (value : Word) → Delimits given → Delimits (put given name value)
put_delimits given options.Passwd value h = h
put_delimits given options.Group value h = h
put_delimits given options.Delim [] h = refl
put_delimits given options.Delim (byte ∷ []) h = one_byte given byte (is_delimiter byte) refl
put_delimits given options.Delim (byte ∷ other ∷ rest) h = refl
put_delimits given options.Limit value h = h
put_delimits given options.Workers value h = h
put_delimits given options.Now value h = h
put_delimits given options.Cache value h = h
put_delimits given options.Prefix value h = h
put_delimits given options.Long value h = h
put_delimits given options.All value h = h
put_delimits given options.Summary value h = h
put_delimits given options.Names value h = h
put_delimits given options.Escape value h = h
put_delimits given options.Header value h = h
put_delimits given options.Json value h = h

with_delimits : (given : Options) (name : OptionName) (value : Word) → Delimits given → StepDelimits (step_with given name value)
with_delimits given name value h =
    either (has_option (put given name value) name) (Taken (record { options = put given name value; waiting = None })) Refused (put_delimits given name value h) tt

named_delimits : (given : Options) (name : OptionName) (value : Option Word) → Delimits given → StepDelimits (step_named given name value)
named_delimits given name None h = either (takes_value name) (Taken (record { options = given; waiting = Some name })) (step_with given name []) h (with_delimits given name [] h)
named_delimits given name (Some value) h = either (takes_value name) (step_with given name value) Refused (with_delimits given name value h) tt

option_delimits : (command : CommandName) (given : Options) (name : Option OptionName) (value : Option Word) → Delimits given → StepDelimits (step_option command given name value)
option_delimits command given None value h = tt
option_delimits command given (Some name) value h = either _ (step_named given name value) Refused (named_delimits given name value h) tt

free_delimits : (command : CommandName) (given : Options) (word : Word) → Delimits given → StepDelimits (step_free command given word)
unfolding step_free
free_delimits command given word h =
    let other = step_option command given (option_named (before_equals word)) (after_equals word) in
    either (is_positional word) (Positional given) (cond (bytes_eq word (codes "--")) (Dropped given) other) h
    (either (bytes_eq word (codes "--")) (Dropped given) other h (option_delimits command given (option_named (before_equals word)) (after_equals word) h))

waiting_delimits : (command : CommandName) (given : Options) (waiting : Option OptionName) (word : Word) → Delimits given → StepDelimits (step_waiting command given waiting word)
waiting_delimits command given None word h = free_delimits command given word h
waiting_delimits command given (Some name) word h = with_delimits given name word h

step_delimits : (command : CommandName) (reading : Reading) (word : Word) → Delimits reading.options → StepDelimits (step_at command reading word)
unfolding step_at
step_delimits command reading word h = waiting_delimits command reading.options reading.waiting word h

end_delimits : (b : Bool) (e : WordError) (arguments : Arguments) → Delimits arguments.options → ReadDelimits (refuse b e >> Ok arguments)
end_delimits true e arguments h = tt
end_delimits false e arguments h = h

after_delimits : (command : CommandName) (place : ℕ) (rest : List Word) (step : Step) → StepDelimits step → ((next : Reading) → Delimits next.options → ReadDelimits (read_options command next (place + 1) rest))
    → ReadDelimits (after_step command place rest step)
after_delimits command place rest (Taken next) h more = more next h
after_delimits command place rest (Dropped given) h more = h
after_delimits command place rest (Positional given) h more = h
after_delimits command place rest Refused h more = tt

options_delimit : (command : CommandName) (reading : Reading) (place : ℕ) (words : List Word) → Delimits reading.options → ReadDelimits (read_options command reading place words)
unfolding read_options
options_delimit command reading place [] h = end_delimits (is_some reading.waiting) _ (record { options = reading.options; first = place }) h
options_delimit command reading place (word ∷ rest) h =
    subst ReadDelimits (sym (read_step command reading place word rest))
    (after_delimits command place rest (step_at command reading word) (step_delimits command reading word h) (λ next k. options_delimit command next (place + 1) rest k))

-- ---- commands

abbrev IsDelimitedRead : Result Command WordError → Type 0
IsDelimitedRead (Ok command) = is_delimited command ≡ true
IsDelimitedRead (Err e) = ⊤

on : {A : Type 0} (r : Result A WordError) (next : A → Result Command WordError) → ((x : A) → IsDelimitedRead (next x)) → IsDelimitedRead (r >>= next)
on (Ok x) next each = each x
on (Err e) next each = tt

then : (r : Result (Unit {0}) WordError) (next : Result Command WordError) → IsDelimitedRead next → IsDelimitedRead (r >> next)
then (Ok x) next h = h
then (Err e) next h = tt

-- a command of one positional, or of two
of_one : {A : Type 0} (first : Result A WordError) (no_other : Result (Unit {0}) WordError) (made : A → Command) → ((x : A) → is_delimited (made x) ≡ true)
    → IsDelimitedRead (first >>= λ x. no_other >> Ok (made x))
of_one first no_other made each = on first (λ x. no_other >> Ok (made x)) (λ x. then no_other (Ok (made x)) (each x))

of_two : {A B : Type 0} (first : Result A WordError) (second : Result B WordError) (no_other : Result (Unit {0}) WordError) (made : A → B → Command) → ((x : A) (y : B) → is_delimited (made x y) ≡ true)
    → IsDelimitedRead (first >>= λ x. second >>= λ y. no_other >> Ok (made x y))
of_two first second no_other made each = on first (λ x. second >>= λ y. no_other >> Ok (made x y)) (λ x. of_one second no_other (made x) (each x))

-- a command of a positional and an option that must be given
of_limited : {A B : Type 0} (first : Result A WordError) (no_other : Result (Unit {0}) WordError) (limit : Result B WordError) (made : A → B → Command) → ((x : A) (y : B) → is_delimited (made x y) ≡ true)
    → IsDelimitedRead (first >>= λ x. no_other >> (limit >>= λ y. Ok (made x y)))
of_limited first no_other limit made each =
    on first (λ x. no_other >> (limit >>= λ y. Ok (made x y))) (λ x. then no_other (limit >>= λ y. Ok (made x y)) (on limit (λ y. Ok (made x y)) (each x)))

walk_delimits : (words : List Word) (a : Arguments) → IsDelimitedRead (walk_of words a)
unfolding walk_of
walk_delimits words a =
    on (needed read_file words a.first)
    (λ trace. needed read_u32 words (a.first + 1) >>= λ uid. needed read_gids words (a.first + 2) >>= λ gids. perhaps read_delimiter default_delimiter words (a.first + 3) >>= λ delim. no_more words (a.first + 4) >> Ok (commands.Walk trace uid gids delim))
    (λ trace. on (needed read_u32 words (a.first + 1))
    (λ uid. needed read_gids words (a.first + 2) >>= λ gids. perhaps read_delimiter default_delimiter words (a.first + 3) >>= λ delim. no_more words (a.first + 4) >> Ok (commands.Walk trace uid gids delim))
    (λ uid. of_two (needed read_gids words (a.first + 2)) (perhaps read_delimiter default_delimiter words (a.first + 3)) (no_more words (a.first + 4)) (commands.Walk trace uid) (λ gids delim. refl)))

refresh_delimits : (words : List Word) (a : Arguments) → IsDelimitedRead (refresh_of words a)
unfolding refresh_of
refresh_delimits words a =
    let limit : Result ℕ WordError = ok_or a.options.limit (refused_at (length words)) in
    let delim : ℕ = delim_or_default a.options in
    on (needed read_file words a.first)
    (λ index. needed read_start words (a.first + 1) >>= λ path. needed read_file words (a.first + 2) >>= λ trace. no_more words (a.first + 3) >> (limit >>= λ n. Ok (commands.Refresh index delim n path trace)))
    (λ index. on (needed read_start words (a.first + 1))
    (λ path. needed read_file words (a.first + 2) >>= λ trace. no_more words (a.first + 3) >> (limit >>= λ n. Ok (commands.Refresh index delim n path trace)))
    (λ path. of_limited (needed read_file words (a.first + 2)) (no_more words (a.first + 3)) limit (λ trace n. commands.Refresh index delim n path trace) (λ trace n. refl)))

command_delimits : (name : CommandName) (words : List Word) (arguments : Arguments) → Delimits arguments.options → IsDelimitedRead (command_of name words arguments)
unfolding trace2index_of rollup_of index2trace_of info_of query_of agg_of find_of du_of ls_of stat_of stats_of diff_of session_of gen_of
command_delimits names.Walk words a h = walk_delimits words a
command_delimits names.Trace2index words a h = of_one (needed read_file words a.first) (no_more words (a.first + 1)) (λ trace. commands.Trace2index trace (delim_or_default a.options)) (λ trace. refl)
command_delimits names.Rollup words a h =
    of_limited (needed read_file words a.first) (no_more words (a.first + 1)) (ok_or a.options.limit (refused_at (length words))) (λ index limit. commands.Rollup index (delim_or_default a.options) limit) (λ index limit. refl)
command_delimits names.Index2trace words a h = of_one (needed read_file words a.first) (no_more words (a.first + 1)) (λ index. commands.Index2trace index (delim_or_default a.options)) (λ index. h)
command_delimits names.Info words a h =
    of_one (needed read_file words a.first) (no_more words (a.first + 1)) (λ index. commands.Info index (delim_or_default a.options) (limit_or_default a.options)) (λ index. refl)
command_delimits names.Refresh words a h = refresh_delimits words a
command_delimits names.Query words a h =
    of_two (common_of words a.first a.options) (needed read_any words (a.first + 3)) (no_more words (a.first + 4)) (λ common. commands.Query common a.options.escape a.options.header a.options.json) (λ common text. refl)
command_delimits names.Agg words a h = of_two (common_of words a.first a.options) (needed read_any words (a.first + 3)) (no_more words (a.first + 4)) (λ common. commands.Agg common a.options.names) (λ common text. refl)
command_delimits names.Find words a h =
    on (common_of words a.first a.options) (λ common. Ok (commands.Find common a.options.time a.options.prefix (drop (a.first + 3) words))) (λ common. refl)
command_delimits names.Du words a h =
    on (common_of words a.first a.options) (λ common. needed read_u32 words (a.first + 3) >>= λ depth. Ok (commands.Du common a.options.time depth (drop (a.first + 4) words)))
    (λ common. on (needed read_u32 words (a.first + 3)) (λ depth. Ok (commands.Du common a.options.time depth (drop (a.first + 4) words))) (λ depth. refl))
command_delimits names.Ls words a h = of_one (common_of words a.first a.options) (no_more words (a.first + 3)) (λ common. commands.Ls common a.options.long a.options.all) (λ common. refl)
command_delimits names.Stat words a h = of_one (common_of words a.first a.options) (no_more words (a.first + 3)) commands.Stat (λ common. refl)
command_delimits names.Stats words a h = of_two (common_of words a.first a.options) (needed read_report words (a.first + 3)) (no_more words (a.first + 4)) (λ common. commands.Stats common a.options.names) (λ common report. refl)
command_delimits names.Diff words a h =
    of_two (needed read_file words a.first) (common_of words (a.first + 1) a.options) (no_more words (a.first + 4)) commands.Diff (λ old common. refl)
command_delimits names.Session words a h =
    of_one (needed read_file words a.first) (no_more words (a.first + 1))
    (commands.Session a.options.passwd a.options.group (delim_or_default a.options) (workers_or_default a.options) a.options.time (cache_or_default a.options)) (λ script. refl)
command_delimits names.Gen words a h =
    of_one (needed read_count words a.first) (no_more words (a.first + 1)) (λ n. commands.Gen n (delim_or_default a.options) (workers_or_default a.options) a.options.summary) (λ n. refl)

with_options : (name : CommandName) (words : List Word) (read : Result Arguments WordError) → ReadDelimits read → IsDelimitedRead (read >>= λ arguments. command_of name words arguments)
with_options name words (Ok arguments) h = command_delimits name words arguments h
with_options name words (Err e) h = tt

words_delimit : (words : List Word) → IsDelimitedRead (read_words words)
unfolding read_words
words_delimit words = on (needed command_named words 0) (λ name. read_options name start 1 (drop 1 words) >>= λ arguments. command_of name words arguments) (λ name. with_options name words (read_options name start 1 (drop 1 words)) (options_delimit name start 1 (drop 1 words) refl))

-- a command that words spell
pub words_delimited : (words : List Word) (command : Command) → read_words words ≡ Ok command → is_delimited command ≡ true
words_delimited words command are = subst IsDelimitedRead are (words_delimit words)
