-- What a legal change shows: of one element, of a job, and of a job that begins.
use Rattle.std.proofs.Common.{◌≡◌, ℕ, ◌<◌, Bool, true, false, List, [], ◌∷◌, ◌++◌, length, set, refl, sym, ap, ◌∙◌, arith}
use Rattle.std.specs.Prelude.{Option, Some, None, slice_get, option_and_then, ◌&&◌, nat_le}
use Rattle.std.proofs.lemmas.Option.{slice_get_within}
use Rattle.std.proofs.lemmas.Bool.Decides.{nat_tests}
use Rattle.gufi_core.specs.declared.state.Shape.{Shape}
use Rattle.gufi_core.specs.declared.state.WorkerState.{WorkerState}
use Rattle.gufi_core.specs.declared.state.JobState.{JobState}
use Rattle.gufi_core.specs.declared.state.Core.{Core}
use Rattle.gufi_core.specs.Steps.{put_at, change_at, guarded, with_jobs, with_workers, in_job, names_tree, begin_with, fresh_workers}
use Rattle.gufi_core.proofs.Shapes.{both}

pub record IsChanged {A : Type 0} (xs : List A) (i : ℕ) (change : A → Option A) (ys : List A) : Type 0 where
  pub old : A
  pub new : A
  pub place : i < length xs
  pub is : slice_get xs i ≡ Some old
  pub changes : change old ≡ Some new
  pub all : ys ≡ set xs i new

changed_new : {A : Type 0} (xs : List A) (i : ℕ) (change : A → Option A) (ys : List A) (x : A) (o : Option A) → slice_get xs i ≡ Some x → change x ≡ o → put_at xs i o ≡ Some ys → IsChanged xs i change ys
changed_new xs i change ys x None at e p = absurd (let n : None ≡ Some ys = p in cc)
changed_new xs i change ys x (Some y) at e p = record { old = x; new = y; place = slice_get_within xs i x at; is = at; changes = e; all = (let s : Some (set xs i y) ≡ Some ys = p in cc) }

changed_old : {A : Type 0} (xs : List A) (i : ℕ) (change : A → Option A) (ys : List A) (o : Option A) → slice_get xs i ≡ o → put_at xs i (option_and_then change o) ≡ Some ys → IsChanged xs i change ys
changed_old xs i change ys None at p = absurd (let n : None ≡ Some ys = p in cc)
changed_old xs i change ys (Some x) at p = changed_new xs i change ys x (change x) at refl p

pub changed : {A : Type 0} (xs : List A) (i : ℕ) (change : A → Option A) (ys : List A) → change_at xs i change ≡ Some ys → IsChanged xs i change ys
changed xs i change ys e = changed_old xs i change ys (slice_get xs i) refl e

pub record IsGuarded {A : Type 0} (test : Bool) (x y : A) : Type 0 where
  pub holds : test ≡ true
  pub is : y ≡ x

pub allowed : {A : Type 0} (test : Bool) (x y : A) → guarded test x ≡ Some y → IsGuarded test x y
allowed true x y e = record { holds = refl; is = (let s : Some x ≡ Some y = e in cc) }
allowed false x y e = absurd (let n : None ≡ Some y = e in cc)

-- what a legal action in a job shows
pub record IsActed (shapes : List Shape) (core : Core) (place : ℕ) (change : Shape → List WorkerState → Option (List WorkerState)) (new : Core) : Type 0 where
  pub job : JobState
  pub shape : Shape
  pub workers : List WorkerState
  pub within : place < length core.jobs
  pub is : slice_get core.jobs place ≡ Some job
  pub of : slice_get shapes job.shape ≡ Some shape
  pub changes : change shape job.workers ≡ Some workers
  pub all : new ≡ record { published = core.published; seen = core.seen; jobs = set core.jobs place (record { number = job.number; shape = job.shape; workers = workers }) }

abbrev of_job : List Shape → (Shape → List WorkerState → Option (List WorkerState)) → JobState → Option JobState
of_job shapes change job = with_workers job (option_and_then (λ shape. change shape job.workers) (slice_get shapes job.shape))

-- what a job's own change shows
record IsDone (shapes : List Shape) (change : Shape → List WorkerState → Option (List WorkerState)) (job new : JobState) : Type 0 where
  pub shape : Shape
  pub workers : List WorkerState
  pub of : slice_get shapes job.shape ≡ Some shape
  pub changes : change shape job.workers ≡ Some workers
  pub all : new ≡ record { number = job.number; shape = job.shape; workers = workers }

done_workers : (shapes : List Shape) (change : Shape → List WorkerState → Option (List WorkerState)) (job new : JobState) (shape : Shape) (o : Option (List WorkerState)) → slice_get shapes job.shape ≡ Some shape → change shape job.workers ≡ o
    → with_workers job o ≡ Some new → IsDone shapes change job new
done_workers shapes change job new shape None of changes e = absurd (let n : None ≡ Some new = e in cc)
done_workers shapes change job new shape (Some workers) of changes e = record {
  shape = shape;
  workers = workers;
  of = of;
  changes = changes;
  all = (let after : JobState = record { number = job.number; shape = job.shape; workers = workers } in let s : Some after ≡ Some new = e in let b : after ≡ new = cc in sym b);
}

done_shape : (shapes : List Shape) (change : Shape → List WorkerState → Option (List WorkerState)) (job new : JobState) (o : Option Shape) → slice_get shapes job.shape ≡ o
    → with_workers job (option_and_then (λ shape. change shape job.workers) o) ≡ Some new → IsDone shapes change job new
done_shape shapes change job new None of e = absurd (let n : None ≡ Some new = e in cc)
done_shape shapes change job new (Some shape) of e = done_workers shapes change job new shape (change shape job.workers) of refl e

acted_jobs : (shapes : List Shape) (core : Core) (place : ℕ) (change : Shape → List WorkerState → Option (List WorkerState)) (new : Core) (jobs : Option (List JobState)) → change_at core.jobs place (of_job shapes change) ≡ jobs
    → with_jobs core jobs ≡ Some new → IsActed shapes core place change new
acted_jobs shapes core place change new None at e = absurd (let n : None ≡ Some new = e in cc)
acted_jobs shapes core place change new (Some jobs) at e =
    let c = changed core.jobs place (of_job shapes change) jobs at in
    let d = done_shape shapes change c.old c.new (slice_get shapes c.old.shape) refl c.changes in
    let after : Core = record { published = core.published; seen = core.seen; jobs = jobs } in
    let b : new ≡ after = (let s : Some after ≡ Some new = e in let b' : after ≡ new = cc in sym b') in
    record {
      job = c.old;
      shape = d.shape;
      workers = d.workers;
      within = c.place;
      is = c.is;
      of = d.of;
      changes = d.changes;
      all = b ∙ ap (λ (js : List JobState). record { published = core.published; seen = core.seen; jobs = js }) (c.all ∙ ap (set core.jobs place) d.all);
    }

pub acted : (shapes : List Shape) (core : Core) (place : ℕ) (change : Shape → List WorkerState → Option (List WorkerState)) (new : Core) → in_job shapes core place change ≡ Some new → IsActed shapes core place change new
acted shapes core place change new e = acted_jobs shapes core place change new (change_at core.jobs place (of_job shapes change)) refl e

-- what the legal beginning of a job shows
pub record IsBegun (shapes : List Shape) (core : Core) (place workers : ℕ) (new : Core) : Type 0 where
  pub number : ℕ
  pub shape : Shape
  pub of : slice_get shapes place ≡ Some shape
  pub names : names_tree core.published number shape.tree ≡ true
  pub some : 0 < workers
  pub all : new ≡ record { published = core.published; seen = core.seen; jobs = core.jobs ++ record { number = number; shape = place; workers = fresh_workers workers shape.first } ∷ [] }

pub begun : (shapes : List Shape) (core : Core) (place workers : ℕ) (new : Core) (number : Option ℕ) (shape : Option Shape) → slice_get shapes place ≡ shape → begin_with core place workers number shape ≡ Some new → IsBegun shapes core place workers new
begun shapes core place workers new None shape of e = absurd (let n : None ≡ Some new = e in cc)
begun shapes core place workers new (Some number) None of e = absurd (let n : None ≡ Some new = e in cc)
begun shapes core place workers new (Some number) (Some shape) of e =
    let after : Core = record { published = core.published; seen = core.seen; jobs = core.jobs ++ record { number = number; shape = place; workers = fresh_workers workers shape.first } ∷ [] } in
    let g = allowed (names_tree core.published number shape.tree && nat_le 1 workers && nat_le workers 32) after new e in
    let t = both (names_tree core.published number shape.tree && nat_le 1 workers) (nat_le workers 32) g.holds in
    let u = both (names_tree core.published number shape.tree) (nat_le 1 workers) t.0 in
    let least : nat_le 1 workers ≡ true = u.1 in
    record {
      number = number;
      shape = shape;
      of = of;
      names = u.0;
      some = grind (arith, nat_tests);
      all = g.is;
    }
