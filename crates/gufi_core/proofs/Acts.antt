-- What a job's workers do is done over its shape.
use Rattle.std.proofs.Common.{◌≡◌, ℕ, ◌<◌, List, length, get_or, take, drop, arith, refl, ap, ◌∙◌}
use Rattle.std.specs.Prelude.{Option, Result, Ok, Err, option_and_then, slice_get}
use Rattle.std.specs.List.{refill}
use Rattle.std.proofs.Math.Seq.{take-length}
use Rattle.std.proofs.lemmas.List.{take-append-le}
use Rattle.std.proofs.lemmas.Option.{slice_get_read}
use Rattle.gufi_core.specs.declared.state.Shape.{Shape}
use Rattle.gufi_core.specs.declared.state.WorkerState.{WorkerState}
use Rattle.gufi_core.specs.declared.state.JobState.{JobState}
use Rattle.gufi_core.specs.declared.event.Action.{Action}
use Rattle.gufi_core.specs.declared.event.Refusal.{Refusal}
use Rattle.gufi_core.specs.declared.event.Refusal.TheVariants.{NotLegal, Memory}
use Rattle.gufi_core.specs.Steps.{with_workers}
use Rattle.gufi_core.specs.Running.{Stepped, workers_after}

in_shape : (job : JobState) (shapes : List Shape) (action : Action) (shape : Shape) → job.shape < length shapes → shape ≡ get_or shapes job.shape shape
    → with_workers job (option_and_then (λ s. workers_after action s job.workers) (slice_get shapes job.shape)) ≡ with_workers job (workers_after action shape job.workers)
in_shape job shapes action shape lt is = ap (λ (o : Option Shape). with_workers job (option_and_then (λ s. workers_after action s job.workers) o)) (slice_get_read shapes (length shapes) job.shape shape refl lt is)

-- a job whose workers act
pub acted : (job : JobState) (shapes : List Shape) (action : Action) (shape : Shape) (new : List WorkerState) (r : Result (Unit {0}) Refusal) → job.shape < length shapes → shape ≡ get_or shapes job.shape shape → Stepped (workers_after action shape job.workers) new r
    → Stepped (with_workers job (option_and_then (λ s. workers_after action s job.workers) (slice_get shapes job.shape))) (record { number = job.number; shape = job.shape; workers = new }) r
acted job shapes action shape new (Ok done) lt is s = in_shape job shapes action shape lt is ∙ ap (with_workers job) s
acted job shapes action shape new (Err NotLegal) lt is s = in_shape job shapes action shape lt is ∙ ap (with_workers job) s
acted job shapes action shape new (Err Memory) lt is s = tt

-- a list written over as many elements
pub fills : {A : Type 0} (n : ℕ) (xs ws : List A) → n ≡ length ws → refill n xs ws ≡ ws
fills n xs ws e = take-append-le n ws (drop (length ws) xs) (omega arith) ∙ ap (λ k. take k ws) e ∙ take-length ws
