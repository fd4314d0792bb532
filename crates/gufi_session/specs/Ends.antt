-- How a session may end: its numbers, and what its output took.
use Rattle.std.specs.Prelude.{◌≡◌, ◌≤◌, ℕ, List, length, take, ⊤, Option, Some, None, IsTrue}
use Rattle.gufi_io.specs.Files.{Files}
use Rattle.gufi_phases.specs.declared.session.End.{End}
use Rattle.gufi_phases.specs.declared.session.End.TheVariants as ends
use Rattle.gufi_phases.specs.Loads.{TakesText}
use Rattle.gufi_plan.specs.Plan.{Plan}
use Rattle.gufi_session.specs.Session.{fits, session_text}
use Rattle.gufi_session.specs.Run.{Run, run_of}

-- The first phases of a run are answered: their numbers fit, and this is their text.
pub record Answered (files : Files) (run : Run) (count : ℕ) (numbers text : List ℕ) : Type 0 where
  pub within : count ≤ length run.plan
  pub fit : IsTrue (fits files (take count run.plan) numbers)
  pub written : text ≡ session_text files (take count run.plan) numbers

-- all of them
abbrev pub AnsweredWhole : Files → Run → List ℕ → List ℕ → Type 0
AnsweredWhole files run numbers text = Answered files run (length run.plan) numbers text

-- some of them
abbrev pub AnsweredInPart : Files → Run → List ℕ → List ℕ → Type 0
AnsweredInPart files run numbers text = ((count : ℕ) × Answered files run count numbers text)

-- so many of them, where so it is
abbrev pub AnsweredWhere : (ℕ → Type 0) → Files → Run → List ℕ → List ℕ → Type 0
AnsweredWhere broke files run numbers text = (count : ℕ) × Answered files run count numbers text × broke count

-- Where nothing failed, all phases up to the file that ends the run are answered. Where reading failed, exactly those before the one
-- whose files it failed at, and else some. `broke` says whether it failed behind so many phases.
abbrev pub SessionEndsWith : (ℕ → Type 0) → Files → Run → End → List ℕ → List ℕ → Type 0
SessionEndsWith broke files run ends.Done numbers text = (run.stop ≡ None) × AnsweredWhole files run numbers text
SessionEndsWith broke files run (ends.Stopped stop) numbers text = (run.stop ≡ Some stop) × AnsweredWhole files run numbers text
SessionEndsWith broke files run ends.ReadFault numbers text = AnsweredWhere broke files run numbers text
SessionEndsWith broke files run end numbers text = AnsweredInPart files run numbers text

-- the same where the shelf tells its bytes
abbrev pub MayEndSession : (ℕ → Type 0) → Option Files → Plan → End → List ℕ → List ℕ → Type 0
MayEndSession broke None plan end numbers text = ⊤
MayEndSession broke (Some files) plan end numbers text = SessionEndsWith broke files (run_of files plan) end numbers text

pub record SessionEnded (told : Option Files) (plan : Plan) (broke : ℕ → Type 0) (end : End) (numbers : List ℕ) (out out' : Option (List ℕ)) : Type 0 where
  pub text : List ℕ
  pub answer : MayEndSession broke told plan end numbers text
  pub taken : TakesText end out out' text
