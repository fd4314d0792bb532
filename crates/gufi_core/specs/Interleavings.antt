-- What holds in every state that a list of legal events reaches.
use Rattle.std.specs.Prelude.{◌≡◌, ℕ, Bool, false, nat_le, ◌==◌, ◌&&◌, List, ◌++◌, length, zip, Option, Some, None, Ok, if◌then◌else◌, slice_get, All, IsTrue}
use Rattle.std.specs.List.{list_all, list_any}
use Rattle.gufi_core.specs.declared.state.Shape.{Shape}
use Rattle.gufi_core.specs.declared.event.Event.{Event}
use Rattle.gufi_core.specs.declared.state.JobState.{JobState}
use Rattle.gufi_core.specs.declared.state.Core.{Core}
use Rattle.gufi_core.specs.Steps.{is_shape, owed, count_of, all_taken, names_tree, step, run_events, Balanced}

-- A job names one of the shapes, over which it is balanced.
abbrev pub BalancedOver : Option Shape → JobState → Type 0
BalancedOver None job = ⊥
BalancedOver (Some shape) job = Balanced shape job

abbrev pub AllBalanced : List Shape → List JobState → Type 0
AllBalanced shapes jobs = All (λ job. BalancedOver (slice_get shapes job.shape) job) jobs

-- A job's number lies between 1 and the number of publications, and names the tree of its shape.
abbrev pub is_of_publication : List ℕ → JobState → Option Shape → Bool
is_of_publication published job None = false
is_of_publication published job (Some shape) = names_tree published job.number shape.tree

abbrev pub are_of_publications : List Shape → Core → Bool
are_of_publications shapes core = list_all (λ job. is_of_publication core.published job (slice_get shapes job.shape)) core.jobs

-- No caller has seen more than there is.
abbrev pub are_seen : Core → Bool
are_seen core = list_all (λ n. nat_le n (length core.published)) core.seen

-- each number is at most the one at its place
abbrev pub none_falls : List ℕ → List ℕ → Bool
none_falls before now = length before == length now && list_all (λ pair. nat_le pair.0 pair.1) (zip before now)

-- Each prefix of the events is legal too, and in the state that it reaches no caller had seen more than in this one.
pub record FrontReaches (callers : ℕ) (shapes : List Shape) (front : List Event) (core : Core) : Type 0 where
  pub before : Core
  pub legal : run_events callers shapes front ≡ Ok before
  pub seen : IsTrue (none_falls before.seen core.seen)

abbrev pub SeenNeverFalls : ℕ → List Shape → List Event → Core → Type 0
SeenNeverFalls callers shapes events core = (front rest : List Event) → events ≡ front ++ rest → FrontReaches callers shapes front core

-- Each shape that a run is given is sound.
abbrev pub are_shapes : List Shape → Bool
are_shapes shapes = list_all is_shape shapes

-- whether all workers of a job have ended
abbrev pub all_ended : JobState → Bool
all_ended job = list_all (λ w. w.ended) job.workers

abbrev pub is_owed : Shape → ℕ → Bool
is_owed shape task = list_any (λ t. t == task) (owed shape)

-- Each owed task was taken once, and no other.
abbrev pub TookOwed : Shape → JobState → Type 0
TookOwed shape job = (task : ℕ) → count_of (all_taken job) task ≡ (if is_owed shape task then 1 else 0)

-- A job over one of the shapes, whose workers have all ended, took what that shape owes.
abbrev pub TookOver : Option Shape → JobState → Type 0
TookOver None job = ⊥
TookOver (Some shape) job = IsTrue (all_ended job) → TookOwed shape job

abbrev pub AllTook : List Shape → List JobState → Type 0
AllTook shapes jobs = All (λ job. TookOver (slice_get shapes job.shape) job) jobs

-- What holds in the state that the events reach: of its jobs, of publications and of what was seen.
pub record HoldsAfter (callers : ℕ) (shapes : List Shape) (events : List Event) (core : Core) : Type 0 where
  pub balanced : AllBalanced shapes core.jobs
  pub took : IsTrue (are_shapes shapes) → AllTook shapes core.jobs
  pub numbered : IsTrue (are_of_publications shapes core)
  pub seen : IsTrue (are_seen core)
  pub never_falls : SeenNeverFalls callers shapes events core

-- A balanced job over a sound shape, whose workers have all ended, took each owed task once and nothing else, be it reached or not.
abbrev pub EndedJobsTookOwed : Type 0
EndedJobsTookOwed = (shape : Shape) (job : JobState) → IsTrue (is_shape shape) → Balanced shape job → IsTrue (all_ended job) → TookOwed shape job

-- In every state that a list of legal events reaches, all of it holds.
abbrev pub RunsHold : Type 0
RunsHold = (callers : ℕ) (shapes : List Shape) (events : List Event) (core : Core) → run_events callers shapes events ≡ Ok core → HoldsAfter callers shapes events core

-- Every legal step keeps all jobs balanced, from every state, be it reached or not.
abbrev pub StepsKeepBalance : Type 0
StepsKeepBalance = (shapes : List Shape) (event : Event) (before after : Core) → step shapes event before ≡ Some after → AllBalanced shapes before.jobs → AllBalanced shapes after.jobs
