-- Words that were worked out by hand.
use Rattle.std.proofs.Common.{◌≡◌, [], ◌∷◌, refl}
use Rattle.std.specs.Prelude.{None, Some, Ok, Err, codes, false, true}
use Rattle.gufi_base.specs.Paths.{read_path}
use Rattle.gufi_words.specs.declared.word.WordError.TheVariants.{Refused}
use Rattle.gufi_words.specs.declared.command.ReportWord.TheVariants.{Uids}
use Rattle.gufi_words.specs.declared.command.Command.TheVariants as commands
use Rattle.gufi_words.specs.WordOptions.{read_options, step_at, step_free}
use Rattle.gufi_words.specs.CommandNames.{command_named, option_named}
use Rattle.gufi_words.specs.CommandWords.{read_words, common_of, walk_of, rollup_of, index2trace_of, info_of, refresh_of, query_of, agg_of, find_of, du_of, ls_of, stats_of, diff_of, session_of, gen_of}

walk_by_number : read_words (codes "walk" ∷ codes "A" ∷ codes "102" ∷ codes "-" ∷ codes "|" ∷ []) ≡ Ok (commands.Walk (codes "A") 102 [] 124)
unfolding read_words command_named walk_of read_options step_at step_free
walk_by_number = refl

walk_behind_end : read_words (codes "walk" ∷ codes "--" ∷ codes "A" ∷ codes "102" ∷ codes "-" ∷ codes "|" ∷ []) ≡ Ok (commands.Walk (codes "A") 102 [] 124)
unfolding read_words command_named walk_of read_options step_at step_free
walk_behind_end = refl

uid_of_33_bits : read_words (codes "walk" ∷ codes "A" ∷ codes "4294967296" ∷ codes "-" ∷ []) ≡ Err (Refused 3)
unfolding read_words command_named walk_of read_options step_at step_free
uid_of_33_bits = refl

no_uid : read_words (codes "walk" ∷ codes "A" ∷ []) ≡ Err (Refused 3)
unfolding read_words command_named walk_of read_options step_at step_free
no_uid = refl

no_option_of_gen : read_words (codes "gen" ∷ codes "--limit=3" ∷ codes "5" ∷ []) ≡ Err (Refused 2)
unfolding read_words command_named option_named gen_of read_options step_at step_free
no_option_of_gen = refl

bad_value_in_two_words : read_words (codes "find" ∷ codes "--workers" ∷ codes "33" ∷ codes "A" ∷ codes "102" ∷ codes "/" ∷ []) ≡ Err (Refused 3)
unfolding read_words command_named option_named find_of read_options step_at step_free
bad_value_in_two_words = refl

no_words : read_words [] ≡ Err (Refused 1)
unfolding read_words
no_words = refl

no_such_option : read_words (codes "ls" ∷ codes "-z" ∷ codes "A" ∷ codes "102" ∷ codes "/" ∷ []) ≡ Err (Refused 2)
unfolding read_words command_named option_named ls_of read_options step_at step_free
no_such_option = refl

words_of_find : read_words (codes "find" ∷ codes "--delim=|" ∷ codes "E" ∷ codes "102" ∷ codes "/p" ∷ codes "-size" ∷ codes "1" ∷ [])
    ≡ Ok (commands.Find (record { passwd = None; group = None; delim = 124; limit = 0; workers = 1; index = codes "E"; user = codes "102"; user_at = 4; start = codes "p" ∷ [] }) None None (codes "-size" ∷ codes "1" ∷ []))
unfolding read_words command_named option_named find_of common_of read_options step_at step_free read_path
words_of_find = refl

flags_of_ls : read_words (codes "ls" ∷ codes "--delim=|" ∷ codes "--passwd=P" ∷ codes "--group=G" ∷ codes "-l" ∷ codes "H" ∷ codes "ana" ∷ codes "/" ∷ [])
    ≡ Ok (commands.Ls (record { passwd = Some (codes "P"); group = Some (codes "G"); delim = 124; limit = 0; workers = 1; index = codes "H"; user = codes "ana"; user_at = 7; start = [] }) true false)
unfolding read_words command_named option_named ls_of common_of read_options step_at step_free read_path
flags_of_ls = refl

no_limit : read_words (codes "rollup" ∷ codes "A" ∷ []) ≡ Err (Refused 3)
unfolding read_words command_named rollup_of read_options step_at step_free
no_limit = refl

extra_before_no_limit : read_words (codes "rollup" ∷ codes "A" ∷ codes "B" ∷ []) ≡ Err (Refused 3)
unfolding read_words command_named rollup_of read_options step_at step_free
extra_before_no_limit = refl

limit_without_value : read_words (codes "rollup" ∷ codes "--limit" ∷ []) ≡ Err (Refused 3)
unfolding read_words command_named option_named rollup_of read_options step_at step_free
limit_without_value = refl

trace_of_an_index : read_words (codes "index2trace" ∷ codes "--delim=|" ∷ codes "A" ∷ []) ≡ Ok (commands.Index2trace (codes "A") 124)
unfolding read_words command_named option_named index2trace_of read_options step_at step_free
trace_of_an_index = refl

no_limit_of_a_trace : read_words (codes "index2trace" ∷ codes "--limit=2" ∷ codes "A" ∷ []) ≡ Err (Refused 2)
unfolding read_words command_named option_named index2trace_of read_options step_at step_free
no_limit_of_a_trace = refl

limit_of_info : read_words (codes "info" ∷ codes "--limit" ∷ codes "2" ∷ codes "A" ∷ []) ≡ Ok (commands.Info (codes "A") 30 2)
unfolding read_words command_named option_named info_of read_options step_at step_free
limit_of_info = refl

words_of_refresh : read_words (codes "refresh" ∷ codes "--delim=|" ∷ codes "--limit=2" ∷ codes "A" ∷ codes "/p" ∷ codes "B" ∷ []) ≡ Ok (commands.Refresh (codes "A") 124 2 (codes "p" ∷ []) (codes "B"))
unfolding read_words command_named option_named refresh_of read_options step_at step_free read_path
words_of_refresh = refl

refresh_without_limit : read_words (codes "refresh" ∷ codes "A" ∷ codes "/p" ∷ codes "B" ∷ []) ≡ Err (Refused 5)
unfolding read_words command_named refresh_of read_options step_at step_free read_path
refresh_without_limit = refl

extra_behind_refresh : read_words (codes "refresh" ∷ codes "A" ∷ codes "/p" ∷ codes "B" ∷ codes "C" ∷ []) ≡ Err (Refused 5)
unfolding read_words command_named refresh_of read_options step_at step_free read_path
extra_behind_refresh = refl

bad_path_before_the_trace : read_words (codes "refresh" ∷ codes "--limit=2" ∷ codes "A" ∷ codes "/.." ∷ []) ≡ Err (Refused 4)
unfolding read_words command_named option_named refresh_of read_options step_at step_free read_path
bad_path_before_the_trace = refl

option_twice : read_words (codes "session" ∷ codes "--now=1" ∷ codes "--now" ∷ codes "x" ∷ codes "s" ∷ []) ≡ Err (Refused 3)
unfolding read_words command_named option_named session_of read_options step_at step_free
option_twice = refl

prefix_of_find : read_words (codes "find" ∷ codes "--prefix=/data/site2" ∷ codes "E" ∷ codes "102" ∷ codes "/" ∷ [])
    ≡ Ok (commands.Find (record { passwd = None; group = None; delim = 30; limit = 0; workers = 1; index = codes "E"; user = codes "102"; user_at = 4; start = [] }) None (Some (codes "/data/site2")) [])
unfolding read_words command_named option_named find_of common_of read_options step_at step_free read_path
prefix_of_find = refl

empty_prefix : read_words (codes "find" ∷ codes "--prefix=" ∷ codes "E" ∷ codes "102" ∷ codes "/" ∷ [])
    ≡ Ok (commands.Find (record { passwd = None; group = None; delim = 30; limit = 0; workers = 1; index = codes "E"; user = codes "102"; user_at = 4; start = [] }) None (Some []) [])
unfolding read_words command_named option_named find_of common_of read_options step_at step_free read_path
empty_prefix = refl

escape_and_header : read_words (codes "query" ∷ codes "--escape" ∷ codes "--header" ∷ codes "E" ∷ codes "102" ∷ codes "/" ∷ codes "SELECT" ∷ [])
    ≡ Ok (commands.Query (record { passwd = None; group = None; delim = 30; limit = 0; workers = 1; index = codes "E"; user = codes "102"; user_at = 5; start = [] }) true true false (codes "SELECT"))
unfolding read_words command_named option_named query_of common_of read_options step_at step_free read_path
escape_and_header = refl

json_alone : read_words (codes "query" ∷ codes "--json" ∷ codes "E" ∷ codes "102" ∷ codes "/" ∷ codes "SELECT" ∷ [])
    ≡ Ok (commands.Query (record { passwd = None; group = None; delim = 30; limit = 0; workers = 1; index = codes "E"; user = codes "102"; user_at = 4; start = [] }) false false true (codes "SELECT"))
unfolding read_words command_named option_named query_of common_of read_options step_at step_free read_path
json_alone = refl

json_beside_a_header : read_words (codes "query" ∷ codes "--header" ∷ codes "--json" ∷ codes "E" ∷ codes "102" ∷ codes "/" ∷ codes "SELECT" ∷ []) ≡ Err (Refused 3)
unfolding read_words command_named option_named query_of read_options step_at step_free
json_beside_a_header = refl

escape_beside_json : read_words (codes "query" ∷ codes "--json" ∷ codes "--escape" ∷ codes "E" ∷ codes "102" ∷ codes "/" ∷ codes "SELECT" ∷ []) ≡ Err (Refused 3)
unfolding read_words command_named option_named query_of read_options step_at step_free
escape_beside_json = refl

no_value_of_json : read_words (codes "query" ∷ codes "--json=1" ∷ codes "E" ∷ codes "102" ∷ codes "/" ∷ codes "SELECT" ∷ []) ≡ Err (Refused 2)
unfolding read_words command_named option_named query_of read_options step_at step_free
no_value_of_json = refl

names_of_stats : read_words (codes "stats" ∷ codes "--names" ∷ codes "E" ∷ codes "102" ∷ codes "/" ∷ codes "uids" ∷ [])
    ≡ Ok (commands.Stats (record { passwd = None; group = None; delim = 30; limit = 0; workers = 1; index = codes "E"; user = codes "102"; user_at = 4; start = [] }) true Uids)
unfolding read_words command_named option_named stats_of common_of read_options step_at step_free read_path
names_of_stats = refl

names_of_agg : read_words (codes "agg" ∷ codes "--names" ∷ codes "E" ∷ codes "102" ∷ codes "/" ∷ codes "SELECT" ∷ [])
    ≡ Ok (commands.Agg (record { passwd = None; group = None; delim = 30; limit = 0; workers = 1; index = codes "E"; user = codes "102"; user_at = 4; start = [] }) true (codes "SELECT"))
unfolding read_words command_named option_named agg_of common_of read_options step_at step_free read_path
names_of_agg = refl

words_of_du : read_words (codes "du" ∷ codes "--limit=3" ∷ codes "E" ∷ codes "102" ∷ codes "/p" ∷ codes "2" ∷ codes "-size" ∷ codes "1" ∷ [])
    ≡ Ok (commands.Du (record { passwd = None; group = None; delim = 30; limit = 3; workers = 1; index = codes "E"; user = codes "102"; user_at = 4; start = codes "p" ∷ [] }) None 2 (codes "-size" ∷ codes "1" ∷ []))
unfolding read_words command_named option_named du_of common_of read_options step_at step_free read_path
words_of_du = refl

no_workers_of_du : read_words (codes "du" ∷ codes "--workers=2" ∷ codes "E" ∷ codes "102" ∷ codes "/" ∷ codes "2" ∷ []) ≡ Err (Refused 2)
unfolding read_words command_named option_named du_of read_options step_at step_free
no_workers_of_du = refl

no_depth : read_words (codes "du" ∷ codes "E" ∷ codes "102" ∷ codes "/" ∷ []) ≡ Err (Refused 5)
unfolding read_words command_named du_of common_of read_options step_at step_free read_path
no_depth = refl

depth_of_33_bits : read_words (codes "du" ∷ codes "E" ∷ codes "102" ∷ codes "/" ∷ codes "4294967296" ∷ []) ≡ Err (Refused 5)
unfolding read_words command_named du_of common_of read_options step_at step_free read_path
depth_of_33_bits = refl

words_of_diff : read_words (codes "diff" ∷ codes "--delim=|" ∷ codes "D" ∷ codes "E" ∷ codes "102" ∷ codes "/p" ∷ [])
    ≡ Ok (commands.Diff (codes "D") (record { passwd = None; group = None; delim = 124; limit = 0; workers = 1; index = codes "E"; user = codes "102"; user_at = 5; start = codes "p" ∷ [] }))
unfolding read_words command_named option_named diff_of common_of read_options step_at step_free read_path
words_of_diff = refl

no_start_of_diff : read_words (codes "diff" ∷ codes "D" ∷ codes "E" ∷ codes "102" ∷ []) ≡ Err (Refused 5)
unfolding read_words command_named diff_of common_of read_options step_at step_free
no_start_of_diff = refl

extra_behind_diff : read_words (codes "diff" ∷ codes "D" ∷ codes "E" ∷ codes "102" ∷ codes "/" ∷ codes "/" ∷ []) ≡ Err (Refused 6)
unfolding read_words command_named diff_of common_of read_options step_at step_free read_path
extra_behind_diff = refl
