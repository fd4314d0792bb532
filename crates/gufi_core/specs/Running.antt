-- What a step does to the state that a run keeps.
use Rattle.std.specs.Prelude.{◌≡◌, false, List, [], Option, Some, None, Result, Ok, Err}
use Rattle.gufi_core.specs.declared.state.Shape.{Shape}
use Rattle.gufi_core.specs.declared.state.WorkerState.{WorkerState}
use Rattle.gufi_core.specs.declared.event.Action.{Action}
use Rattle.gufi_core.specs.declared.event.Action.TheVariants.{Take, Steal, Push, End}
use Rattle.gufi_core.specs.declared.event.Refusal.{Refusal}
use Rattle.gufi_core.specs.declared.event.Refusal.TheVariants.{NotLegal, Memory}
use Rattle.gufi_core.specs.Steps.{change_at, take_own, push_own, end_own, steal}

-- The step is taken where it is legal, and refused where it isn't; want of memory may come anywhere.
abbrev pub Stepped : {A B : Type 0} → Option A → A → Result B Refusal → Type 0
Stepped given now (Ok done) = given ≡ Some now
Stepped given now (Err NotLegal) = given ≡ None
Stepped given now (Err Memory) = Unit {0}

-- a worker that has done nothing, with an empty deque
abbrev pub idle_worker : WorkerState
idle_worker = record { deque = []; taken = []; to_push = []; ended = false }

-- a job's workers after what one of them does
abbrev pub workers_after : Action → Shape → List WorkerState → Option (List WorkerState)
workers_after (Take worker) shape workers = change_at workers worker (take_own shape)
workers_after (Steal thief victim) shape workers = steal shape workers thief victim
workers_after (Push worker) shape workers = change_at workers worker push_own
workers_after (End worker) shape workers = change_at workers worker end_own
