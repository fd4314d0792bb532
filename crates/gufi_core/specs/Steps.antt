-- The pure core: publications, pins and jobs whose tasks move between workers.
use Rattle.std.specs.Prelude.{◌≡◌, ℕ, zero, suc, ◌+◌, ◌-◌, ◌%◌, Bool, true, false, not, ◌==◌, ◌&&◌, ◌||◌, nat_lt, nat_le, List, [], ◌∷◌, ◌++◌, length, drop, map, count_by, Option, Some, None, option_and_then, Result, Ok, Err, if◌then◌else◌, slice_get, slice_set, slice_index_or, replicate, IsTrue}
use Rattle.std.specs.List.{list_all, flat_map, range_with_len}
use Rattle.gufi_base.specs.Basics.{is_empty}
use Rattle.gufi_core.specs.declared.state.Shape.{Shape}
use Rattle.gufi_core.specs.declared.event.Event.{Event}
use Rattle.gufi_core.specs.declared.event.Event.TheVariants.{Publish, Pin, Begin, Take, Steal, Push, End}
use Rattle.gufi_core.specs.declared.state.WorkerState.{WorkerState}
use Rattle.gufi_core.specs.declared.state.JobState.{JobState}
use Rattle.gufi_core.specs.declared.state.Core.{Core}
use Rattle.gufi_core.specs.declared.run.CoreFault.{CoreFault}
use Rattle.gufi_core.specs.declared.run.CoreFault.TheVariants.{Illegal}

-- ---- shapes

abbrev pub kids_of : Shape → ℕ → List ℕ
kids_of shape task = slice_index_or shape.kids task []

-- all numbers that a shape names, as often as it names them
abbrev pub named_tasks : Shape → List ℕ
named_tasks shape = shape.first ++ flat_map (λ kids. kids) shape.kids

abbrev pub count_of : List ℕ → ℕ → ℕ
count_of tasks task = count_by (λ t. t == task) tasks

abbrev pub later_kids : ℕ → List (List ℕ) → Bool
later_kids parent [] = true
later_kids parent (kids ∷ rest) = list_all (nat_lt parent) kids && later_kids (suc parent) rest

-- each number at most once, a kid above its parent, and each below the length of kids
abbrev pub is_shape : Shape → Bool
is_shape shape =
    list_all (λ task. nat_lt task (length shape.kids) && count_of (named_tasks shape) task == 1) (named_tasks shape) && later_kids 0 shape.kids

-- The first tasks and all that is reached from them through kids; no chain of kids is longer than there are numbers.
abbrev pub reached : ℕ → Shape → List ℕ → List ℕ
reached zero shape tasks = []
reached (suc fuel) shape tasks = tasks ++ reached fuel shape (flat_map (kids_of shape) tasks)

abbrev pub owed : Shape → List ℕ
owed shape = reached (length shape.kids) shape shape.first

-- ---- what an event changes

-- a change of the element at a place, where there is one and the change is allowed
abbrev pub put_at : {A : Type 0} → List A → ℕ → Option A → Option (List A)
put_at xs i None = None
put_at xs i (Some x) = Some (slice_set xs i x)

abbrev pub change_at : {A : Type 0} → List A → ℕ → (A → Option A) → Option (List A)
change_at xs i change = put_at xs i (option_and_then change (slice_get xs i))

abbrev pub guarded : {A : Type 0} → Bool → A → Option A
guarded test x = if test then Some x else None

-- The worker hasn't ended and has nothing to push.
abbrev pub is_free : WorkerState → Bool
is_free w = not w.ended && is_empty w.to_push

abbrev pub with_taken : Shape → ℕ → WorkerState → WorkerState
with_taken shape task w = record { deque = w.deque; taken = w.taken ++ task ∷ []; to_push = kids_of shape task; ended = w.ended }

abbrev pub with_deque : List ℕ → WorkerState → WorkerState
with_deque deque w = record { deque = deque; taken = w.taken; to_push = w.to_push; ended = w.ended }

-- the first of the own deque
abbrev pub take_from : Shape → WorkerState → List ℕ → Option WorkerState
take_from shape w [] = None
take_from shape w (task ∷ rest) = guarded (is_free w) (with_taken shape task (with_deque rest w))

abbrev pub take_own : Shape → WorkerState → Option WorkerState
take_own shape w = take_from shape w w.deque

-- the first to push goes to the back of the own deque
abbrev pub push_from : WorkerState → List ℕ → Option WorkerState
push_from w [] = None
push_from w (task ∷ rest) = Some (record { deque = w.deque ++ task ∷ []; taken = w.taken; to_push = rest; ended = w.ended })

abbrev pub push_own : WorkerState → Option WorkerState
push_own w = push_from w w.to_push

abbrev pub end_own : WorkerState → Option WorkerState
end_own w = guarded (is_free w && is_empty w.deque) (record { deque = w.deque; taken = w.taken; to_push = w.to_push; ended = true })

abbrev pub give_to : Shape → List WorkerState → ℕ → Option ℕ → Option (List WorkerState)
give_to shape workers thief None = None
give_to shape workers thief (Some task) = change_at workers thief (λ w. guarded (is_free w) (with_taken shape task w))

-- the first of another worker's deque
abbrev pub steal_from : Shape → List WorkerState → ℕ → ℕ → Option WorkerState → Option (List WorkerState)
steal_from shape workers thief victim None = None
steal_from shape workers thief victim (Some from) =
    give_to shape (slice_set workers victim (with_deque (drop 1 from.deque) from)) thief (slice_get from.deque 0)

abbrev pub steal : Shape → List WorkerState → ℕ → ℕ → Option (List WorkerState)
steal shape workers thief victim =
    if thief == victim then None else steal_from shape workers thief victim (slice_get workers victim)

-- first task i goes to worker i modulo the workers
abbrev pub dealt_to : ℕ → ℕ → ℕ → List ℕ → List ℕ
dealt_to workers worker i [] = []
dealt_to workers worker i (task ∷ rest) =
    if i % workers == worker then task ∷ dealt_to workers worker (i + 1) rest else dealt_to workers worker (i + 1) rest

abbrev pub fresh_worker : ℕ → List ℕ → ℕ → WorkerState
fresh_worker workers first worker = record { deque = dealt_to workers worker 0 first; taken = []; to_push = []; ended = false }

abbrev pub fresh_workers : ℕ → List ℕ → List WorkerState
fresh_workers workers first = map (fresh_worker workers first) (range_with_len 0 workers)

-- ---- steps

abbrev pub with_jobs : Core → Option (List JobState) → Option Core
with_jobs core None = None
with_jobs core (Some jobs) = Some (record { published = core.published; seen = core.seen; jobs = jobs })

abbrev pub with_workers : JobState → Option (List WorkerState) → Option JobState
with_workers job None = None
with_workers job (Some workers) = Some (record { number = job.number; shape = job.shape; workers = workers })

abbrev pub with_seen : Core → Option (List ℕ) → Option Core
with_seen core None = None
with_seen core (Some seen) = Some (record { published = core.published; seen = seen; jobs = core.jobs })

-- a change of a job's workers, by its shape
abbrev pub in_job : List Shape → Core → ℕ → (Shape → List WorkerState → Option (List WorkerState)) → Option Core
in_job shapes core job change =
    with_jobs core (change_at core.jobs job (λ j. with_workers j (option_and_then (λ shape. change shape j.workers) (slice_get shapes j.shape))))

abbrev pub is_tree : ℕ → Option ℕ → Bool
is_tree tree None = false
is_tree tree (Some t) = t == tree

-- Begin is legal where the caller's number is at least 1, the shape's tree is that publication's, and there are 1 to 32 workers.
abbrev pub names_tree : List ℕ → ℕ → ℕ → Bool
names_tree published number tree = nat_lt 0 number && is_tree tree (slice_get published (number - 1))

abbrev pub begin_with : Core → ℕ → ℕ → Option ℕ → Option Shape → Option Core
begin_with core shape workers None found = None
begin_with core shape workers (Some number) None = None
begin_with core shape workers (Some number) (Some found) =
    guarded (names_tree core.published number found.tree && nat_le 1 workers && nat_le workers 32)
    (record { published = core.published; seen = core.seen; jobs = core.jobs ++ record { number = number; shape = shape; workers = fresh_workers workers found.first } ∷ [] })

-- the state after a legal event, and None for an illegal one
abbrev pub step : List Shape → Event → Core → Option Core
step shapes (Publish tree) core = Some (record { published = core.published ++ tree ∷ []; seen = core.seen; jobs = core.jobs })
step shapes (Pin caller) core = with_seen core (change_at core.seen caller (λ n. Some (length core.published)))
step shapes (Begin caller shape workers) core = begin_with core shape workers (slice_get core.seen caller) (slice_get shapes shape)
step shapes (Take job worker) core = in_job shapes core job (λ shape workers. change_at workers worker (take_own shape))
step shapes (Steal job thief victim) core = in_job shapes core job (λ shape workers. steal shape workers thief victim)
step shapes (Push job worker) core = in_job shapes core job (λ shape workers. change_at workers worker push_own)
step shapes (End job worker) core = in_job shapes core job (λ shape workers. change_at workers worker end_own)

abbrev pub first_core : ℕ → Core
first_core callers = record { published = []; seen = replicate callers 0; jobs = [] }

-- the events from a place on; the first that isn't legal is named
abbrev pub go_on : {A : Type 0} → ℕ → Option A → (A → Result A CoreFault) → Result A CoreFault
go_on place None next = Err (Illegal place)
go_on place (Some core) next = next core

abbrev pub run_from : List Shape → ℕ → List Event → Core → Result Core CoreFault
run_from shapes place [] core = Ok core
run_from shapes place (event ∷ events) core = go_on place (step shapes event core) (λ next. run_from shapes (place + 1) events next)

abbrev pub run_events : ℕ → List Shape → List Event → Result Core CoreFault
run_events callers shapes events = run_from shapes 0 events (first_core callers)

-- ---- what holds of a job

abbrev pub all_taken : JobState → List ℕ
all_taken job = flat_map (λ w. w.taken) job.workers

abbrev pub all_held : JobState → List ℕ
all_held job = flat_map (λ w. w.taken ++ w.deque ++ w.to_push) job.workers

-- a worker that has ended has nothing in its deque and nothing to push
abbrev pub has_ended_empty : WorkerState → Bool
has_ended_empty w = not w.ended || (is_empty w.deque && is_empty w.to_push)

-- Of each number: as many among the first tasks and the kids of all taken ones as among those taken, in a deque or still to push.
pub record Balanced (shape : Shape) (job : JobState) : Type 0 where
  pub counts : (task : ℕ) → count_of (shape.first ++ flat_map (kids_of shape) (all_taken job)) task ≡ count_of (all_held job) task
  pub ended : IsTrue (list_all has_ended_empty job.workers)
