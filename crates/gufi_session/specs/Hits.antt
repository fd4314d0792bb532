-- How many asks of a session are answered by what their lanes kept.
use Rattle.std.specs.Prelude.{ℕ, List}
use Rattle.gufi_io.specs.Files.{Files}
use Rattle.gufi_phases.specs.Loads.{phases_over}
use Rattle.gufi_phases.specs.Sessions.{hits_over}
use Rattle.gufi_plan.specs.Plan.{Plan}
use Rattle.gufi_session.specs.Loaded.{load_phase, command_outcome, search_key, search_body}

-- The hits of the asks of a plan over files at these numbers, where each lane keeps so many of its last replies.
abbrev pub session_hits : Files → Plan → ℕ → List ℕ → ℕ
session_hits files plan capacity numbers = hits_over command_outcome search_key search_body capacity (phases_over load_phase files plan) numbers
