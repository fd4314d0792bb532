-- How far the files let a session run.
use Rattle.std.specs.Prelude.{ℕ, ◌+◌, nat_lt, List, [], ◌∷◌, length, Option, Some, None, Result, Ok, Err}
use Rattle.gufi_io.specs.Files.{Files}
use Rattle.gufi_base.specs.Limits.{max_trace}
use Rattle.gufi_base.specs.Basics.{◌>>=◌, ◌>>◌, refuse}
use Rattle.gufi_phases.specs.declared.load.Stop.{Stop}
use Rattle.gufi_phases.specs.declared.load.Stop.TheVariants.{NoFile, TooLong}
use Rattle.gufi_plan.specs.Plan.{Plan}
use Rattle.gufi_plan.specs.declared.act.PlannedAct.{PlannedAct}
use Rattle.gufi_plan.specs.declared.act.PlannedAct.TheVariants.{Publish, Rollup, Refresh, Ask}

abbrev pub named_file : PlannedAct → Option (List ℕ)
named_file (Publish delim limit file) = Some file
named_file (Rollup limit) = None
named_file (Refresh delim path file) = Some file
named_file (Ask lane search) = None

-- A file ends the run where it isn't held, or where with it the bytes of its phase pass their limit.
abbrev pub with_file : ℕ → List ℕ → Option (List ℕ) → Result ℕ Stop
with_file before file None = Err (NoFile file)
with_file before file (Some bytes) = refuse (nat_lt max_trace (before + length bytes)) (TooLong file) >> Ok (before + length bytes)

abbrev pub after_act : Files → ℕ → Option (List ℕ) → Result ℕ Stop
after_act files before None = Ok before
after_act files before (Some file) = with_file before file (files file)

-- the bytes of the files of acts, each once for each act that names it, or the first at which the run ends
unfoldable pub phase_bytes : Files → ℕ → List PlannedAct → Result ℕ Stop
phase_bytes files before [] = Ok before
phase_bytes files before (act ∷ acts) = after_act files before (named_file act) >>= λ now. phase_bytes files now acts

-- the phases up to the first whose files end the run, and why it ends there
pub record Run : Type 0 where
  pub plan : Plan
  pub stop : Option Stop

abbrev pub run_behind : List PlannedAct → Run → Result ℕ Stop → Run
run_behind phase rest (Ok bytes) = record { plan = phase ∷ rest.plan; stop = rest.stop }
run_behind phase rest (Err stop) = record { plan = []; stop = Some stop }

unfoldable pub run_of : Files → Plan → Run
run_of files [] = record { plan = []; stop = None }
run_of files (phase ∷ phases) = run_behind phase (run_of files phases) (phase_bytes files 0 phase)
