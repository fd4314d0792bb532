-- The commands, the options, and which command has which option.
use Rattle.std.specs.Prelude.{Bool, true, false, Option, Some, None, if◌then◌else◌, bytes_eq, codes}
use Rattle.gufi_words.specs.WordValues.{Word}
use Rattle.gufi_words.specs.declared.name.CommandName.{CommandName}
use Rattle.gufi_words.specs.declared.name.CommandName.TheVariants.{Walk, Trace2index, Rollup, Index2trace, Info, Refresh, Query, Agg, Find, Du, Ls, Stat, Stats, Diff, Session, Gen}
use Rattle.gufi_words.specs.declared.name.OptionName.{OptionName}
use Rattle.gufi_words.specs.declared.name.OptionName.TheVariants.{Passwd, Group, Delim, Limit, Workers, Now, Cache, Prefix, Long, All, Summary, Names, Escape, Header, Json}

unfoldable pub command_named : Word → Option CommandName
command_named word =
    if bytes_eq word (codes "walk") then Some Walk
    else if bytes_eq word (codes "trace2index") then Some Trace2index
    else if bytes_eq word (codes "rollup") then Some Rollup
    else if bytes_eq word (codes "index2trace") then Some Index2trace
    else if bytes_eq word (codes "info") then Some Info
    else if bytes_eq word (codes "refresh") then Some Refresh
    else if bytes_eq word (codes "query") then Some Query
    else if bytes_eq word (codes "agg") then Some Agg
    else if bytes_eq word (codes "find") then Some Find
    else if bytes_eq word (codes "du") then Some Du
    else if bytes_eq word (codes "ls") then Some Ls
    else if bytes_eq word (codes "stat") then Some Stat
    else if bytes_eq word (codes "stats") then Some Stats
    else if bytes_eq word (codes "diff") then Some Diff
    else if bytes_eq word (codes "session") then Some Session
    else if bytes_eq word (codes "gen") then Some Gen
    else None

unfoldable pub option_named : Word → Option OptionName
option_named word =
    if bytes_eq word (codes "--passwd") then Some Passwd
    else if bytes_eq word (codes "--group") then Some Group
    else if bytes_eq word (codes "--delim") then Some Delim
    else if bytes_eq word (codes "--limit") then Some Limit
    else if bytes_eq word (codes "--workers") then Some Workers
    else if bytes_eq word (codes "--now") then Some Now
    else if bytes_eq word (codes "--cache") then Some Cache
    else if bytes_eq word (codes "--prefix") then Some Prefix
    else if bytes_eq word (codes "-l") then Some Long
    else if bytes_eq word (codes "-A") then Some All
    else if bytes_eq word (codes "--summary") then Some Summary
    else if bytes_eq word (codes "--names") then Some Names
    else if bytes_eq word (codes "--escape") then Some Escape
    else if bytes_eq word (codes "--header") then Some Header
    else if bytes_eq word (codes "--json") then Some Json
    else None

-- "-l", "-A", "--summary", "--names", "--escape", "--header" and "--json" take none
abbrev pub takes_value : OptionName → Bool
takes_value Long = false
takes_value All = false
takes_value Summary = false
takes_value Names = false
takes_value Escape = false
takes_value Header = false
takes_value Json = false
takes_value option = true

-- what each command has that asks an index
abbrev pub is_common : OptionName → Bool
is_common Passwd = true
is_common Group = true
is_common Delim = true
is_common Limit = true
is_common Workers = true
is_common option = false

-- the options of each command
abbrev pub allows : CommandName → OptionName → Bool
allows Walk option = false
allows Trace2index Delim = true
allows Trace2index option = false
allows Rollup Delim = true
allows Rollup Limit = true
allows Rollup option = false
allows Index2trace Delim = true
allows Index2trace option = false
allows Info Delim = true
allows Info Limit = true
allows Info option = false
allows Refresh Delim = true
allows Refresh Limit = true
allows Refresh option = false
allows Query Escape = true
allows Query Header = true
allows Query Json = true
allows Query option = is_common option
allows Agg Names = true
allows Agg option = is_common option
allows Find Now = true
allows Find Prefix = true
allows Find option = is_common option
allows Du Passwd = true
allows Du Group = true
allows Du Delim = true
allows Du Limit = true
allows Du Now = true
allows Du option = false
allows Ls Long = true
allows Ls All = true
allows Ls option = is_common option
allows Stat option = is_common option
allows Stats Names = true
allows Stats option = is_common option
allows Diff option = is_common option
allows Session Passwd = true
allows Session Group = true
allows Session Delim = true
allows Session Workers = true
allows Session Now = true
allows Session Cache = true
allows Session option = false
allows Gen Delim = true
allows Gen Workers = true
allows Gen Summary = true
allows Gen option = false
