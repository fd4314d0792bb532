-- The acts of a phase as they are carried out: files are replaced by their bytes.
use Rattle.std.specs.Prelude.{ℕ, List, ◌++◌, map, Option, Result, Ok, Err, codes, decimal}
use Rattle.gufi_io.specs.Files.{Files}
use Rattle.gufi_base.specs.Basics.{line, ◌>>=◌}
use Rattle.gufi_trace.specs.TraceText.{trace_means}
use Rattle.gufi_cache.specs.declared.key.CacheKey.{CacheKey}
use Rattle.gufi_cache.specs.Keys.{key_of}
use Rattle.gufi_phases.specs.declared.act.Act.{Act}
use Rattle.gufi_phases.specs.declared.act.Act.TheVariants as acts
use Rattle.gufi_phases.specs.declared.load.Stop.{Stop}
use Rattle.gufi_plan.specs.declared.act.PlannedAct.{PlannedAct}
use Rattle.gufi_plan.specs.declared.act.PlannedAct.TheVariants as planned
use Rattle.gufi_session.specs.declared.publishing.Publishing.{Publishing}
use Rattle.gufi_session.specs.declared.publishing.Publishing.TheVariants.{Publish, Rollup, Refresh}
use Rattle.gufi_session.specs.declared.reply.Asking.{Asking}
use Rattle.gufi_session.specs.Session.{Published, adds, refuses, does_nothing, Publication, published, rolled, grafted, bytes_of, reply_text, reply_body}
use Rattle.gufi_session.specs.Run.{phase_bytes}

abbrev pub LoadedAct : Type 0
LoadedAct = Act Publishing Asking

abbrev pub loaded : Files → PlannedAct → LoadedAct
loaded files (planned.Publish delim limit file) = acts.Publish (Publish delim limit (bytes_of files file))
loaded files (planned.Rollup limit) = acts.Publish (Rollup limit)
loaded files (planned.Refresh delim path file) = acts.Publish (Refresh delim path (bytes_of files file))
loaded files (planned.Ask lane search) = acts.Ask lane (record { search = search })

abbrev pub loaded_phase : Files → List PlannedAct → List LoadedAct
loaded_phase files phase = map (loaded files) phase

-- the acts of a phase over the files, or the file that ends the run there
unfoldable pub load_phase : List PlannedAct → Files → Result (List LoadedAct) Stop
load_phase phase files = phase_bytes files 0 phase >>= λ bytes. Ok (loaded_phase files phase)

-- what a command comes to, as a publication or the text of a refusal
abbrev pub as_result : Published → Result Publication (List ℕ)
as_result (adds p) = Ok p
as_result (refuses text) = Err text
as_result does_nothing = Err (codes "")

abbrev pub command_outcome : Publishing → Option Publication → Result Publication (List ℕ)
command_outcome (Publish delim limit trace) last = as_result (published limit (trace_means delim trace))
command_outcome (Rollup limit) last = as_result (rolled limit last)
command_outcome (Refresh delim path trace) last = as_result (grafted path (trace_means delim trace) last)

abbrev pub verb_of : Publishing → List ℕ
verb_of (Publish delim limit trace) = codes "publish "
verb_of (Rollup limit) = codes "rollup "
verb_of (Refresh delim path trace) = codes "refresh "

abbrev pub command_line : Publishing → ℕ → Result ℕ (List ℕ) → List ℕ
command_line command k (Ok number) = line (verb_of command ++ decimal k ++ codes " number " ++ decimal number)
command_line command k (Err text) = line (verb_of command ++ decimal k ++ codes " refused " ++ text)

abbrev pub search_reply : Asking → ℕ → ℕ → Option Publication → List ℕ
search_reply asking i n p = reply_text i n p asking.search

-- what follows the head of a reply from a publication, and what a lane keeps it under
abbrev pub search_body : Asking → Publication → List ℕ
search_body asking p = reply_body asking.search p.tree

abbrev pub search_key : Asking → ℕ → CacheKey
search_key asking n = key_of n asking.search.who asking.search.start asking.search.ask
