-- What holds in every state that a list of legal events reaches.
use Rattle.std.proofs.Common.{◌≡◌, ℕ, zero, suc, ◌+◌, true, List, [], ◌∷◌, ◌++◌, refl, sym, ap, ◌∙◌, subst}
use Rattle.std.specs.Prelude.{Option, Some, None, Ok, Err, slice_get}
use Rattle.std.proofs.lemmas.List.Elements.{All-nil, All-weaker}
use Rattle.gufi_core.specs.declared.state.Shape.{Shape}
use Rattle.gufi_core.specs.declared.state.JobState.{JobState}
use Rattle.gufi_core.specs.declared.state.Core.{Core}
use Rattle.gufi_core.specs.declared.event.Event.{Event}
use Rattle.gufi_core.specs.declared.run.CoreFault.TheVariants.{Illegal}
use Rattle.gufi_core.specs.Steps.{is_shape, step, go_on, run_from, run_events, first_core}
use Rattle.gufi_core.specs.Interleavings.{BalancedOver, AllBalanced, TookOver, AllTook, are_shapes, FrontReaches, RunsHold}
use Rattle.gufi_core.proofs.Shapes.{both}
use Rattle.gufi_core.proofs.Ended.{took_owed}
use Rattle.gufi_core.proofs.Balance.{keeps_balance}
use Rattle.gufi_core.proofs.Numbers.{IsSound, step_next}
use Rattle.gufi_core.proofs.Rises.{Rises, rises_same, rises_on, none_falls_of, bounded_none}

-- the first step of a run
record IsStepped (shapes : List Shape) (place : ℕ) (event : Event) (events : List Event) (core last : Core) : Type 0 where
  pub next : Core
  pub legal : step shapes event core ≡ Some next
  pub rest : run_from shapes (place + 1) events next ≡ Ok last

stepped : (shapes : List Shape) (place : ℕ) (event : Event) (events : List Event) (core last : Core) (o : Option Core) → step shapes event core ≡ o
    → go_on place o (λ next. run_from shapes (place + 1) events next) ≡ Ok last → IsStepped shapes place event events core last
stepped shapes place event events core last None at e = absurd (let n : Err (Illegal place) ≡ Ok last = e in cc)
stepped shapes place event events core last (Some next) at e = record { next = next; legal = at; rest = e }

-- what a run keeps from a state on
record IsLater (shapes : List Shape) (core last : Core) : Type 0 where
  pub balanced : AllBalanced shapes last.jobs
  pub sound : IsSound shapes last
  pub rises : Rises core.seen last.seen

runs : (shapes : List Shape) (place : ℕ) (events : List Event) (core last : Core) → AllBalanced shapes core.jobs → IsSound shapes core → run_from shapes place events core ≡ Ok last → IsLater shapes core last
runs shapes place [] core last balanced sound e =
    let same : core ≡ last = (let s : Ok core ≡ Ok last = e in cc) in
    let stays : IsLater shapes core core = record { balanced = balanced; sound = sound; rises = rises_same core.seen } in
    subst (IsLater shapes core) same stays
runs shapes place (event ∷ events) core last balanced sound e =
    let s = stepped shapes place event events core last (step shapes event core) refl e in
    let n = step_next shapes event core s.next sound s.legal in
    let later = runs shapes (place + 1) events s.next last (keeps_balance shapes event core s.next s.legal balanced) n.sound s.rest in
    record { balanced = later.balanced; sound = later.sound; rises = rises_on core.seen s.next.seen last.seen n.rises later.rises }

-- a run through a front of its events
record IsThrough (shapes : List Shape) (place : ℕ) (front rest : List Event) (core last : Core) : Type 0 where
  pub before : Core
  pub at : ℕ
  pub legal : run_from shapes place front core ≡ Ok before
  pub rests : run_from shapes at rest before ≡ Ok last

through : (shapes : List Shape) (place : ℕ) (front rest : List Event) (core last : Core) → run_from shapes place (front ++ rest) core ≡ Ok last → IsThrough shapes place front rest core last
through shapes place [] rest core last e = record { before = core; at = place; legal = refl; rests = e }
through shapes place (event ∷ front) rest core last e =
    let s = stepped shapes place event (front ++ rest) core last (step shapes event core) refl e in
    let t = through shapes (place + 1) front rest s.next last s.rest in
    record { before = t.before; at = t.at; legal = ap (λ o. go_on place o (λ next. run_from shapes (place + 1) front next)) s.legal ∙ t.legal; rests = t.rests }

none_yet : (shapes : List Shape) (callers : ℕ) → AllBalanced shapes (first_core callers).jobs
none_yet shapes callers = All-nil (λ (job : JobState). BalancedOver (slice_get shapes job.shape) job)

sound_first : (shapes : List Shape) (callers : ℕ) → IsSound shapes (first_core callers)
sound_first shapes callers = record { numbered = refl; seen = bounded_none callers 0 }

reaches : (callers : ℕ) (shapes : List Shape) (events : List Event) (core : Core) → run_events callers shapes events ≡ Ok core → (front rest : List Event) → events ≡ front ++ rest → FrontReaches callers shapes front core
reaches callers shapes events core e front rest parts =
    let t = through shapes 0 front rest (first_core callers) core (ap (λ (es : List Event). run_from shapes 0 es (first_core callers)) (sym parts) ∙ e) in
    let before = runs shapes 0 front (first_core callers) t.before (none_yet shapes callers) (sound_first shapes callers) t.legal in
    let later = runs shapes t.at rest t.before core before.balanced before.sound t.rests in
    record { before = t.before; legal = t.legal; seen = none_falls_of t.before.seen core.seen later.rises }

shape_at : (shapes : List Shape) (place : ℕ) (shape : Shape) → are_shapes shapes ≡ true → slice_get shapes place ≡ Some shape → is_shape shape ≡ true
shape_at [] place shape sound at = absurd (let n : None ≡ Some shape = at in cc)
shape_at (s ∷ shapes) zero shape sound at = let same : s ≡ shape = (let e : Some s ≡ Some shape = at in cc) in ap is_shape (sym same) ∙ (both (is_shape s) (are_shapes shapes) sound).0
shape_at (s ∷ shapes) (suc place) shape sound at = shape_at shapes place shape (both (is_shape s) (are_shapes shapes) sound).1 at

took_over : (job : JobState) (shape : Option Shape) → ((s : Shape) → shape ≡ Some s → is_shape s ≡ true) → BalancedOver shape job → TookOver shape job
took_over job None sound balanced = balanced
took_over job (Some shape) sound balanced = took_owed shape job (sound shape refl) balanced

all_took : (shapes : List Shape) (jobs : List JobState) → are_shapes shapes ≡ true → AllBalanced shapes jobs → AllTook shapes jobs
all_took shapes jobs sound balanced =
    All-weaker (λ (job : JobState). BalancedOver (slice_get shapes job.shape) job) (λ (job : JobState). TookOver (slice_get shapes job.shape) job)
    (λ job. took_over job (slice_get shapes job.shape) (λ shape at. shape_at shapes job.shape shape sound at)) jobs balanced

pub runs_hold : RunsHold
runs_hold callers shapes events core e =
    let all = runs shapes 0 events (first_core callers) core (none_yet shapes callers) (sound_first shapes callers) e in
    record { balanced = all.balanced; took = λ sound. all_took shapes core.jobs sound all.balanced; numbered = all.sound.numbered; seen = all.sound.seen; never_falls = reaches callers shapes events core e }
