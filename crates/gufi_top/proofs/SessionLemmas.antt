-- Lemmas on how the plan of a session is read.
use Rattle.std.proofs.Common.{◌≡◌, ℕ, List, refl}
use Rattle.std.specs.Prelude.{ℤ, Option, Some, None, option_map, Result, Ok, Err, Vec}
use Rattle.std.specs.declared.alloc.Global.{Global}
use Rattle.gufi_io.specs.Files.{Files}
use Rattle.gufi_base.specs.Limits.{max_script}
use Rattle.gufi_users.specs.Entries.{UserTables}
use Rattle.gufi_script.specs.ScriptText.{PlacedAct}
use Rattle.gufi_plan.specs.Plan.{Setting, Plan}
use Rattle.gufi_top.specs.Reasons.{tables_in, file_in, acts_within, acts_in}
use Rattle.gufi_top.specs.Verdict.{plan_with, script_plan, session_plan, run_over, session_over}
use Rattle.gufi_top.specs.Calls.{Gives, GivesOver}
use Rattle.gufi_top.specs.Views.{text_view, bytes_view}
use Rattle.gufi_top.specs.declared.halt.Halt.{Halt}
use Rattle.gufi_top.proofs.StepLemmas.{over_ok, over_err, given_over}

pub acts_ok : (told : Option Files) (script : List ℕ) (bytes : Vec ℕ Global) (r : Result (List PlacedAct) Halt)
    → GivesOver told bytes_view (Ok bytes) (file_in max_script script) → Gives {A = List PlacedAct} (λ a. a) r (acts_within script bytes.items) → GivesOver {A = List PlacedAct} told (λ a. a) r (acts_in script)
unfolding acts_in
acts_ok told script bytes r read given = over_ok told bytes_view (λ a. a) bytes r (file_in max_script script) (λ b files. acts_within script b) read (given_over told (λ a. a) r _ given)

pub acts_err : (told : Option Files) (script : List ℕ) (e : Halt)
    → GivesOver told bytes_view (Err e) (file_in max_script script) → GivesOver {A = List PlacedAct} told (λ a. a) (Err e) (acts_in script)
unfolding acts_in
acts_err told script e read = over_err told bytes_view (λ (a : List PlacedAct). a) e (file_in max_script script) (λ b files. acts_within script b) read

pub script_ok : (told : Option Files) (setting : Setting) (script : List ℕ) (acts : List PlacedAct) (r : Result Plan Halt)
    → GivesOver {A = List PlacedAct} told (λ a. a) (Ok acts) (acts_in script) → Gives {A = Plan} (λ p. p) r (plan_with setting script acts) → GivesOver {A = Plan} told (λ p. p) r (script_plan setting script)
unfolding script_plan
script_ok told setting script acts r read given = over_ok told (λ a. a) (λ p. p) acts r (acts_in script) (λ a files. plan_with setting script a) read (given_over told (λ p. p) r _ given)

pub script_err : (told : Option Files) (setting : Setting) (script : List ℕ) (e : Halt)
    → GivesOver {A = List PlacedAct} told (λ a. a) (Err e) (acts_in script) → GivesOver {A = Plan} told (λ p. p) (Err e) (script_plan setting script)
unfolding script_plan
script_err told setting script e read = over_err told (λ a. a) (λ (p : Plan). p) e (acts_in script) (λ a files. plan_with setting script a) read

module _ (told : Option Files) (passwd group : Option (List ℕ)) (delim : ℕ) (now : Option ℤ) (script : List ℕ) where
  pub plan_ok : (tables : UserTables) (r : Result Plan Halt)
      → GivesOver {A = UserTables} told (λ t. t) (Ok tables) (tables_in passwd group) → GivesOver {A = Plan} told (λ p. p) r (script_plan (record { tables = tables; now = now; delim = delim }) script)
      → GivesOver {A = Plan} told (λ p. p) r (session_plan passwd group delim now script)
  unfolding session_plan
  plan_ok tables r read given = over_ok told (λ t. t) (λ p. p) tables r (tables_in passwd group) (λ t files. script_plan (record { tables = t; now = now; delim = delim }) script files) read given

  pub plan_err : (e : Halt) → GivesOver {A = UserTables} told (λ t. t) (Err e) (tables_in passwd group) → GivesOver {A = Plan} told (λ p. p) (Err e) (session_plan passwd group delim now script)
  unfolding session_plan
  plan_err e read = over_err told (λ t. t) (λ (p : Plan). p) e (tables_in passwd group) (λ t files. script_plan (record { tables = t; now = now; delim = delim }) script files) read

  -- a session that has no plan
  pub session_err : (cache : ℕ) (e : Halt) → GivesOver {A = Plan} told (λ p. p) (Err e) (session_plan passwd group delim now script) → GivesOver told text_view (Err e) (session_over passwd group delim now cache script)
  unfolding session_over
  session_err cache e read = over_err told (λ (p : Plan). p) text_view e (session_plan passwd group delim now script) (run_over cache) read

pub ruleset scripts = (acts_ok, acts_err, script_ok, script_err, plan_ok, plan_err)

-- a session is the run of its plan
pub session_of : (told : Option Files) (passwd group : Option (List ℕ)) (delim : ℕ) (now : Option ℤ) (cache : ℕ) (script : List ℕ) (planned : Plan)
    → GivesOver {A = Plan} told (λ p. p) (Ok planned) (session_plan passwd group delim now script) → option_map (session_over passwd group delim now cache script) told ≡ option_map (run_over cache planned) told
unfolding session_over
session_of None passwd group delim now cache script planned read = refl
session_of (Some files) passwd group delim now cache script planned read = rw read refl
