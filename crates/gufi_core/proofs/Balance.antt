-- Every legal step keeps all jobs balanced.
use Rattle.std.proofs.Common.{◌≡◌, ℕ, ◌+◌, ◌<◌, true, List, [], ◌∷◌, ◌++◌, length, get_or, sum_by, refl, sym, ap, subst, arith}
use Rattle.std.specs.Prelude.{Option, Some, None, slice_get}
use Rattle.std.specs.List.{list_all, flat_map}
use Rattle.std.proofs.lemmas.Option.{get_or_from_slice_get}
use Rattle.std.proofs.lemmas.List.Sums.{sum_by-cons, sum_by-append}
use Rattle.std.proofs.lemmas.List.Concat.{flat_map-append}
use Rattle.std.proofs.lemmas.List.Elements.{All-set, All-push, All-get_or}
use Rattle.gufi_core.specs.declared.state.Shape.{Shape}
use Rattle.gufi_core.specs.declared.state.WorkerState.{WorkerState}
use Rattle.gufi_core.specs.declared.state.JobState.{JobState}
use Rattle.gufi_core.specs.declared.state.Core.{Core}
use Rattle.gufi_core.specs.declared.event.Event.TheVariants.{Publish, Pin, Begin, Take, Steal, Push, End}
use Rattle.gufi_core.specs.Steps.{kids_of, all_taken, has_ended_empty, Balanced, with_seen, change_at, in_job, fresh_workers, take_own, push_own, end_own, steal}
use Rattle.gufi_core.specs.Interleavings.{BalancedOver, AllBalanced, StepsKeepBalance}
use Rattle.gufi_core.proofs.Counts.{one, sum_flat}
use Rattle.gufi_core.proofs.Changed.{acted, begun}
use Rattle.gufi_core.proofs.Evens.{owes, holds, IsEven, take_even, push_even, end_even}
use Rattle.gufi_core.proofs.Thefts.{steal_even}
use Rattle.gufi_core.proofs.Dealing.{fresh_holds, fresh_owes, fresh_running}

all_owed : (shape : Shape) (h : ℕ → ℕ) (ws : List WorkerState) → sum_by h (flat_map (kids_of shape) (flat_map (λ (w : WorkerState). w.taken) ws)) ≡ sum_by (owes shape h) ws
all_owed shape h [] = refl
all_owed shape h (w ∷ ws) =
    let rest = flat_map (λ (v : WorkerState). v.taken) ws in
    omega (arith, ap (sum_by h) (flat_map-append (kids_of shape) w.taken rest), sum_by-append h (flat_map (kids_of shape) w.taken) (flat_map (kids_of shape) rest), all_owed shape h ws, sum_by-cons (owes shape h) w ws)

-- the counts of a balanced job, by its workers
record IsLevel (shape : Shape) (ws : List WorkerState) : Type 0 where
  pub level : (x : ℕ) → sum_by (one x) shape.first + sum_by (owes shape (one x)) ws ≡ sum_by (holds (one x)) ws
  pub ended : list_all has_ended_empty ws ≡ true

level_of : (shape : Shape) (job : JobState) → Balanced shape job → IsLevel shape job.workers
level_of shape job balanced = record {
  level = λ x.
      let counts = balanced.counts x in
      omega (arith, sum_by-append (one x) shape.first (flat_map (kids_of shape) (all_taken job)), all_owed shape (one x) job.workers, sum_flat (one x) (λ (w : WorkerState). w.taken ++ w.deque ++ w.to_push) job.workers);
  ended = balanced.ended;
}

balanced_of : (shape : Shape) (job : JobState) → IsLevel shape job.workers → Balanced shape job
balanced_of shape job is = record {
  counts = λ x.
      let level = is.level x in
      omega (arith, sum_by-append (one x) shape.first (flat_map (kids_of shape) (all_taken job)), all_owed shape (one x) job.workers, sum_flat (one x) (λ (w : WorkerState). w.taken ++ w.deque ++ w.to_push) job.workers);
  ended = is.ended;
}

level_after : (shape : Shape) (old new : List WorkerState) → IsLevel shape old → IsEven shape old new → IsLevel shape new
level_after shape old new is kept = record { level = λ x. let level = is.level x in let even = kept.even (one x) in omega arith; ended = kept.ended is.ended }

fresh_level : (shape : Shape) (n : ℕ) → 0 < n → IsLevel shape (fresh_workers n shape.first)
fresh_level shape n some = record { level = λ x. omega (arith, fresh_holds (one x) n shape.first some, fresh_owes shape (one x) n shape.first); ended = fresh_running n shape.first }

abbrev Stands : List Shape → JobState → Type 0
Stands shapes job = BalancedOver (slice_get shapes job.shape) job

stands : (shapes : List Shape) (job : JobState) (shape : Shape) → slice_get shapes job.shape ≡ Some shape → Balanced shape job → Stands shapes job
stands shapes job shape of balanced = subst (λ (o : Option Shape). BalancedOver o job) (sym of) balanced

stood : (shapes : List Shape) (job : JobState) (shape : Shape) → slice_get shapes job.shape ≡ Some shape → Stands shapes job → Balanced shape job
stood shapes job shape of is = subst (λ (o : Option Shape). BalancedOver o job) of is

acts_balanced : (shapes : List Shape) (core : Core) (place : ℕ) (change : Shape → List WorkerState → Option (List WorkerState)) (new : Core) → ((shape : Shape) (ws ws' : List WorkerState) → change shape ws ≡ Some ws' → IsEven shape ws ws')
    → in_job shapes core place change ≡ Some new → AllBalanced shapes core.jobs → AllBalanced shapes new.jobs
acts_balanced shapes core place change new keeps e all =
    let a = acted shapes core place change new e in
    let here : get_or core.jobs place a.job ≡ a.job = get_or_from_slice_get core.jobs place a.job a.job a.is in
    let old : Stands shapes a.job = subst (Stands shapes) here (All-get_or (Stands shapes) core.jobs place a.job a.within all) in
    let after : JobState = record { number = a.job.number; shape = a.job.shape; workers = a.workers } in
    let level = level_after a.shape a.job.workers a.workers (level_of a.shape a.job (stood shapes a.job a.shape a.of old)) (keeps a.shape a.job.workers a.workers a.changes) in
    let balanced : Stands shapes after = stands shapes after a.shape a.of (balanced_of a.shape after level) in
    subst (λ (c : Core). AllBalanced shapes c.jobs) (sym a.all) (All-set (Stands shapes) core.jobs place after balanced all)

pin_balanced : (shapes : List Shape) (core new : Core) (seen : Option (List ℕ)) → with_seen core seen ≡ Some new → AllBalanced shapes core.jobs → AllBalanced shapes new.jobs
pin_balanced shapes core new None e all = absurd (let n : None ≡ Some new = e in cc)
pin_balanced shapes core new (Some seen) e all =
    let after : Core = record { published = core.published; seen = seen; jobs = core.jobs } in
    let same : after ≡ new = (let s : Some after ≡ Some new = e in cc) in
    subst (λ (c : Core). AllBalanced shapes c.jobs) same all

pub keeps_balance : StepsKeepBalance
keeps_balance shapes (Publish tree) core new e all =
    let after : Core = record { published = core.published ++ tree ∷ []; seen = core.seen; jobs = core.jobs } in
    let same : after ≡ new = (let s : Some after ≡ Some new = e in cc) in
    subst (λ (c : Core). AllBalanced shapes c.jobs) same all
keeps_balance shapes (Pin caller) core new e all = pin_balanced shapes core new (change_at core.seen caller (λ n. Some (length core.published))) e all
keeps_balance shapes (Begin caller place workers) core new e all =
    let b = begun shapes core place workers new (slice_get core.seen caller) (slice_get shapes place) refl e in
    let job : JobState = record { number = b.number; shape = place; workers = fresh_workers workers b.shape.first } in
    let balanced : Stands shapes job = stands shapes job b.shape b.of (balanced_of b.shape job (fresh_level b.shape workers b.some)) in
    subst (λ (c : Core). AllBalanced shapes c.jobs) (sym b.all) (All-push (Stands shapes) core.jobs job all balanced)
keeps_balance shapes (Take job worker) core new e all = acts_balanced shapes core job (λ shape workers. change_at workers worker (take_own shape)) new (λ shape ws ws' c. take_even shape ws ws' worker c) e all
keeps_balance shapes (Steal job thief victim) core new e all = acts_balanced shapes core job (λ shape workers. steal shape workers thief victim) new (λ shape ws ws' c. steal_even shape ws ws' thief victim c) e all
keeps_balance shapes (Push job worker) core new e all = acts_balanced shapes core job (λ shape workers. change_at workers worker push_own) new (λ shape ws ws' c. push_even shape ws ws' worker c) e all
keeps_balance shapes (End job worker) core new e all = acts_balanced shapes core job (λ shape workers. change_at workers worker end_own) new (λ shape ws ws' c. end_even shape ws ws' worker c) e all
