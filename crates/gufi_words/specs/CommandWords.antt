-- The words of a command: its name, options, then positionals; or the first word that can't be taken.
use Rattle.std.specs.Prelude.{ℕ, ◌+◌, Bool, true, List, length, drop, Result, Ok}
use Rattle.std.specs.Option.{ok_or}
use Rattle.gufi_base.specs.Delimiters.{default_delimiter, may_delimit}
use Rattle.gufi_base.specs.Basics.{◌>>=◌, ◌>>◌}
use Rattle.gufi_base.specs.Numbers.{read_u32}
use Rattle.gufi_words.specs.WordNumbers.{number_at, refused_at}
use Rattle.gufi_words.specs.WordValues.{Word, read_delimiter, read_count, read_report, read_file, read_start, read_gids, read_any}
use Rattle.gufi_words.specs.CommandNames.{command_named}
use Rattle.gufi_words.specs.WordOptions.{delim_or_default, limit_or_default, workers_or_default, cache_or_default, start, read_options}
use Rattle.gufi_words.specs.WordPositionals.{needed, perhaps, no_more}
use Rattle.gufi_words.specs.declared.word.WordError.{WordError}
use Rattle.gufi_words.specs.declared.name.CommandName.{CommandName}
use Rattle.gufi_words.specs.declared.name.CommandName.TheVariants.{Walk, Trace2index, Rollup, Index2trace, Info, Refresh, Query, Agg, Find, Du, Ls, Stat, Stats, Diff, Session, Gen}
use Rattle.gufi_words.specs.declared.option.Options.{Options}
use Rattle.gufi_words.specs.declared.option.Arguments.{Arguments}
use Rattle.gufi_words.specs.declared.command.Common.{Common}
use Rattle.gufi_words.specs.declared.command.Command.{Command}
use Rattle.gufi_words.specs.declared.command.Command.TheVariants as commands

-- INDEX USER START, from a place on
unfoldable pub common_of : List Word → ℕ → Options → Result Common WordError
common_of words place options = do
  index ← needed read_file words place
  user ← needed read_any words (place + 1)
  path ← needed read_start words (place + 2)
  Ok (record {
    passwd = options.passwd;
    group = options.group;
    delim = delim_or_default options;
    limit = limit_or_default options;
    workers = workers_or_default options;
    index = index;
    user = user;
    user_at = number_at (place + 1);
    start = path;
  })

-- TRACE UID GIDS and perhaps DELIM
unfoldable pub walk_of : List Word → Arguments → Result Command WordError
walk_of words arguments = do
  trace ← needed read_file words arguments.first
  uid ← needed read_u32 words (arguments.first + 1)
  gids ← needed read_gids words (arguments.first + 2)
  delim ← perhaps read_delimiter default_delimiter words (arguments.first + 3)
  no_more words (arguments.first + 4)
  Ok (commands.Walk trace uid gids delim)

-- TRACE
unfoldable pub trace2index_of : List Word → Arguments → Result Command WordError
trace2index_of words arguments = do
  trace ← needed read_file words arguments.first
  no_more words (arguments.first + 1)
  Ok (commands.Trace2index trace (delim_or_default arguments.options))

-- INDEX, with a limit, without which the words are too few
unfoldable pub rollup_of : List Word → Arguments → Result Command WordError
rollup_of words arguments = do
  index ← needed read_file words arguments.first
  no_more words (arguments.first + 1)
  limit ← ok_or arguments.options.limit (refused_at (length words))
  Ok (commands.Rollup index (delim_or_default arguments.options) limit)

-- INDEX
unfoldable pub index2trace_of : List Word → Arguments → Result Command WordError
index2trace_of words arguments = do
  index ← needed read_file words arguments.first
  no_more words (arguments.first + 1)
  Ok (commands.Index2trace index (delim_or_default arguments.options))

-- INDEX
unfoldable pub info_of : List Word → Arguments → Result Command WordError
info_of words arguments = do
  index ← needed read_file words arguments.first
  no_more words (arguments.first + 1)
  Ok (commands.Info index (delim_or_default arguments.options) (limit_or_default arguments.options))

-- INDEX PATH TRACE, with a limit, without which the words are too few
unfoldable pub refresh_of : List Word → Arguments → Result Command WordError
refresh_of words arguments = do
  index ← needed read_file words arguments.first
  path ← needed read_start words (arguments.first + 1)
  trace ← needed read_file words (arguments.first + 2)
  no_more words (arguments.first + 3)
  limit ← ok_or arguments.options.limit (refused_at (length words))
  Ok (commands.Refresh index (delim_or_default arguments.options) limit path trace)

-- INDEX USER START TEXT
unfoldable pub query_of : List Word → Arguments → Result Command WordError
query_of words arguments = do
  common ← common_of words arguments.first arguments.options
  text ← needed read_any words (arguments.first + 3)
  no_more words (arguments.first + 4)
  Ok (commands.Query common arguments.options.escape arguments.options.header arguments.options.json text)

-- INDEX USER START TEXT
unfoldable pub agg_of : List Word → Arguments → Result Command WordError
agg_of words arguments = do
  common ← common_of words arguments.first arguments.options
  text ← needed read_any words (arguments.first + 3)
  no_more words (arguments.first + 4)
  Ok (commands.Agg common arguments.options.names text)

-- INDEX USER START and any further words
unfoldable pub find_of : List Word → Arguments → Result Command WordError
find_of words arguments = do
  common ← common_of words arguments.first arguments.options
  Ok (commands.Find common arguments.options.time arguments.options.prefix (drop (arguments.first + 3) words))

-- INDEX USER START DEPTH and any further words
unfoldable pub du_of : List Word → Arguments → Result Command WordError
du_of words arguments = do
  common ← common_of words arguments.first arguments.options
  depth ← needed read_u32 words (arguments.first + 3)
  Ok (commands.Du common arguments.options.time depth (drop (arguments.first + 4) words))

-- INDEX USER START
unfoldable pub ls_of : List Word → Arguments → Result Command WordError
ls_of words arguments = do
  common ← common_of words arguments.first arguments.options
  no_more words (arguments.first + 3)
  Ok (commands.Ls common arguments.options.long arguments.options.all)

-- INDEX USER START
unfoldable pub stat_of : List Word → Arguments → Result Command WordError
stat_of words arguments = do
  common ← common_of words arguments.first arguments.options
  no_more words (arguments.first + 3)
  Ok (commands.Stat common)

-- INDEX USER START REPORT
unfoldable pub stats_of : List Word → Arguments → Result Command WordError
stats_of words arguments = do
  common ← common_of words arguments.first arguments.options
  report ← needed read_report words (arguments.first + 3)
  no_more words (arguments.first + 4)
  Ok (commands.Stats common arguments.options.names report)

-- OLD INDEX USER START
unfoldable pub diff_of : List Word → Arguments → Result Command WordError
diff_of words arguments = do
  old ← needed read_file words arguments.first
  common ← common_of words (arguments.first + 1) arguments.options
  no_more words (arguments.first + 4)
  Ok (commands.Diff old common)

-- SCRIPT
unfoldable pub session_of : List Word → Arguments → Result Command WordError
session_of words arguments = do
  script ← needed read_file words arguments.first
  no_more words (arguments.first + 1)
  Ok (commands.Session arguments.options.passwd arguments.options.group (delim_or_default arguments.options) (workers_or_default arguments.options) arguments.options.time (cache_or_default arguments.options) script)

-- N
unfoldable pub gen_of : List Word → Arguments → Result Command WordError
gen_of words arguments = do
  n ← needed read_count words arguments.first
  no_more words (arguments.first + 1)
  Ok (commands.Gen n (delim_or_default arguments.options) (workers_or_default arguments.options) arguments.options.summary)

abbrev pub command_of : CommandName → List Word → Arguments → Result Command WordError
command_of Walk = walk_of
command_of Trace2index = trace2index_of
command_of Rollup = rollup_of
command_of Index2trace = index2trace_of
command_of Info = info_of
command_of Refresh = refresh_of
command_of Query = query_of
command_of Agg = agg_of
command_of Find = find_of
command_of Du = du_of
command_of Ls = ls_of
command_of Stat = stat_of
command_of Stats = stats_of
command_of Diff = diff_of
command_of Session = session_of
command_of Gen = gen_of

unfoldable pub read_words : List Word → Result Command WordError
read_words words = do
  name ← needed command_named words 0
  arguments ← read_options name start 1 (drop 1 words)
  command_of name words arguments

-- the byte that is to separate the fields of what is written may do so
abbrev pub is_delimited : Command → Bool
is_delimited (commands.Walk trace uid gids delim) = true
is_delimited (commands.Trace2index trace delim) = true
is_delimited (commands.Rollup index delim limit) = true
is_delimited (commands.Index2trace index delim) = may_delimit delim
is_delimited (commands.Info index delim limit) = true
is_delimited (commands.Refresh index delim limit path trace) = true
is_delimited (commands.Query common escape header json text) = true
is_delimited (commands.Agg common names text) = true
is_delimited (commands.Find common now prefix words) = true
is_delimited (commands.Du common now depth words) = true
is_delimited (commands.Ls common long all) = true
is_delimited (commands.Stat common) = true
is_delimited (commands.Stats common names report) = true
is_delimited (commands.Diff old common) = true
is_delimited (commands.Session passwd group delim workers now cache script) = true
is_delimited (commands.Gen n delim workers summary) = true
