-- Every legal step keeps what jobs and callers know of publications.
use Rattle.std.proofs.Common.{◌≡◌, ℕ, zero, suc, ◌-◌, Bool, true, false, List, [], ◌∷◌, ◌++◌, length, set, refl, sym, ap, ◌∙◌, subst, arith, length-append}
use Rattle.std.specs.Prelude.{Option, Some, None, slice_get, nat_lt, ◌&&◌}
use Rattle.std.specs.List.{list_all}
use Rattle.std.proofs.lemmas.List.Folds.{list_all-append}
use Rattle.gufi_core.specs.declared.state.Shape.{Shape}
use Rattle.gufi_core.specs.declared.state.WorkerState.{WorkerState}
use Rattle.gufi_core.specs.declared.state.JobState.{JobState}
use Rattle.gufi_core.specs.declared.state.Core.{Core}
use Rattle.gufi_core.specs.declared.event.Event.{Event}
use Rattle.gufi_core.specs.declared.event.Event.TheVariants.{Publish, Pin, Begin, Take, Steal, Push, End}
use Rattle.gufi_core.specs.Steps.{is_tree, names_tree, with_seen, change_at, in_job, fresh_workers, take_own, push_own, end_own, steal, step}
use Rattle.gufi_core.specs.Interleavings.{is_of_publication, are_of_publications, are_seen}
use Rattle.gufi_core.proofs.Shapes.{both}
use Rattle.gufi_core.proofs.Changed.{changed, acted, IsBegun, begun}
use Rattle.gufi_core.proofs.Evens.{all_set}
use Rattle.gufi_core.proofs.Rises.{Rises, rises_same, rises_set, bounded_set, bounded_more}

-- a publication that is there stays the same behind a further one
still_tree : (published : List ℕ) (more : List ℕ) (place tree : ℕ) → is_tree tree (slice_get published place) ≡ true → is_tree tree (slice_get (published ++ more) place) ≡ true
still_tree [] more place tree e = absurd (let n : false ≡ true = e in cc)
still_tree (t ∷ published) more zero tree e = e
still_tree (t ∷ published) more (suc place) tree e = still_tree published more place tree e

still_names : (published more : List ℕ) (number tree : ℕ) → names_tree published number tree ≡ true → names_tree (published ++ more) number tree ≡ true
still_names published more number tree e =
    let t = both (nat_lt 0 number) (is_tree tree (slice_get published (number - 1))) e in
    ap (λ b. b && is_tree tree (slice_get (published ++ more) (number - 1))) t.0 ∙ still_tree published more (number - 1) tree t.1

still_of : (published more : List ℕ) (job : JobState) (shape : Option Shape) → is_of_publication published job shape ≡ true → is_of_publication (published ++ more) job shape ≡ true
still_of published more job None e = e
still_of published more job (Some shape) e = still_names published more job.number shape.tree e

abbrev of_publication : List Shape → List ℕ → JobState → Bool
of_publication shapes published job = is_of_publication published job (slice_get shapes job.shape)

still_all : (shapes : List Shape) (published more : List ℕ) (jobs : List JobState) → list_all (of_publication shapes published) jobs ≡ true → list_all (of_publication shapes (published ++ more)) jobs ≡ true
still_all shapes published more [] e = refl
still_all shapes published more (job ∷ jobs) e =
    let t = both (of_publication shapes published job) (list_all (of_publication shapes published) jobs) e in
    ap (λ b. b && list_all (of_publication shapes (published ++ more)) jobs) (still_of published more job (slice_get shapes job.shape) t.0) ∙ still_all shapes published more jobs t.1

pub record IsSound (shapes : List Shape) (core : Core) : Type 0 where
  pub numbered : are_of_publications shapes core ≡ true
  pub seen : are_seen core ≡ true

-- what a step keeps, and what it may change of what was seen
pub record IsNext (shapes : List Shape) (old new : Core) : Type 0 where
  pub sound : IsSound shapes new
  pub rises : Rises old.seen new.seen

publish_next : (shapes : List Shape) (core : Core) (tree : ℕ) → IsSound shapes core → IsNext shapes core (record { published = core.published ++ tree ∷ []; seen = core.seen; jobs = core.jobs })
publish_next shapes core tree sound = record {
  sound = record {
    numbered = still_all shapes core.published (tree ∷ []) core.jobs sound.numbered;
    seen = bounded_more core.seen (length core.published) (length (core.published ++ tree ∷ [])) (omega (arith, length-append core.published (tree ∷ []))) sound.seen;
  };
  rises = rises_same core.seen;
}

pin_next : (shapes : List Shape) (core new : Core) (caller : ℕ) (seen : Option (List ℕ)) → IsSound shapes core → change_at core.seen caller (λ n. Some (length core.published)) ≡ seen → with_seen core seen ≡ Some new → IsNext shapes core new
pin_next shapes core new caller None sound at e = absurd (let n : None ≡ Some new = e in cc)
pin_next shapes core new caller (Some seen) sound at e =
    let after : Core = record { published = core.published; seen = seen; jobs = core.jobs } in
    let same : after ≡ new = (let s : Some after ≡ Some new = e in cc) in
    let c = changed core.seen caller (λ n. Some (length core.published)) seen at in
    let latest : length core.published ≡ c.new = (let s : Some (length core.published) ≡ Some c.new = c.changes in cc) in
    let all : set core.seen caller (length core.published) ≡ seen = ap (set core.seen caller) latest ∙ sym c.all in
    let next : IsNext shapes core (record { published = core.published; seen = set core.seen caller (length core.published); jobs = core.jobs }) = record {
      sound = record { numbered = sound.numbered; seen = bounded_set core.seen caller (length core.published) sound.seen };
      rises = rises_set core.seen caller (length core.published) sound.seen;
    } in
    subst (IsNext shapes core) (ap (λ (s : List ℕ). let r : Core = record { published = core.published; seen = s; jobs = core.jobs } in r) all ∙ same) next

begin_next : (shapes : List Shape) (core new : Core) (place workers : ℕ) → IsSound shapes core → IsBegun shapes core place workers new → IsNext shapes core new
begin_next shapes core new place workers sound b =
    let job : JobState = record { number = b.number; shape = place; workers = fresh_workers workers b.shape.first } in
    let names : of_publication shapes core.published job ≡ true = ap (is_of_publication core.published job) b.of ∙ b.names in
    let one : list_all (of_publication shapes core.published) (job ∷ []) ≡ true = ap (λ x. x && true) names in
    let next : IsNext shapes core (record { published = core.published; seen = core.seen; jobs = core.jobs ++ job ∷ [] }) = record {
      sound = record {
        numbered = list_all-append (of_publication shapes core.published) core.jobs (job ∷ []) ∙ ap (λ x. x && list_all (of_publication shapes core.published) (job ∷ [])) sound.numbered ∙ one;
        seen = sound.seen;
      };
      rises = rises_same core.seen;
    } in
    subst (IsNext shapes core) (sym b.all) next

act_next : (shapes : List Shape) (core new : Core) (place : ℕ) (change : Shape → List WorkerState → Option (List WorkerState)) → IsSound shapes core → in_job shapes core place change ≡ Some new → IsNext shapes core new
act_next shapes core new place change sound e =
    let a = acted shapes core place change new e in
    let after : JobState = record { number = a.job.number; shape = a.job.shape; workers = a.workers } in
    let as_before : of_publication shapes core.published after ≡ of_publication shapes core.published a.job = same_of core.published a.job a.workers (slice_get shapes a.job.shape) in
    let next : IsNext shapes core (record { published = core.published; seen = core.seen; jobs = set core.jobs place after }) = record {
      sound = record {
        numbered = all_set (of_publication shapes core.published) core.jobs place a.job after a.is (λ old. as_before ∙ old) sound.numbered;
        seen = sound.seen;
      };
      rises = rises_same core.seen;
    } in
    subst (IsNext shapes core) (sym a.all) next
  where
    same_of : (published : List ℕ) (job : JobState) (workers : List WorkerState) (shape : Option Shape) → is_of_publication published (record { number = job.number; shape = job.shape; workers = workers }) shape ≡ is_of_publication published job shape
    same_of published job workers None = refl
    same_of published job workers (Some shape) = refl

pub step_next : (shapes : List Shape) (event : Event) (core new : Core) → IsSound shapes core → step shapes event core ≡ Some new → IsNext shapes core new
step_next shapes (Publish tree) core new sound e =
    let after : Core = record { published = core.published ++ tree ∷ []; seen = core.seen; jobs = core.jobs } in
    let same : after ≡ new = (let s : Some after ≡ Some new = e in cc) in
    subst (IsNext shapes core) same (publish_next shapes core tree sound)
step_next shapes (Pin caller) core new sound e = pin_next shapes core new caller (change_at core.seen caller (λ n. Some (length core.published))) sound refl e
step_next shapes (Begin caller place workers) core new sound e = begin_next shapes core new place workers sound (begun shapes core place workers new (slice_get core.seen caller) (slice_get shapes place) refl e)
step_next shapes (Take job worker) core new sound e = act_next shapes core new job (λ shape workers. change_at workers worker (take_own shape)) sound e
step_next shapes (Steal job thief victim) core new sound e = act_next shapes core new job (λ shape workers. steal shape workers thief victim) sound e
step_next shapes (Push job worker) core new sound e = act_next shapes core new job (λ shape workers. change_at workers worker push_own) sound e
step_next shapes (End job worker) core new sound e = act_next shapes core new job (λ shape workers. change_at workers worker end_own) sound e
