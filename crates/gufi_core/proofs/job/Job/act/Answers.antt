use Rattle.std.proofs.Common.{◌≡◌, ◌<◌, List, length, ap, subst, sym, arith}
use Rattle.std.specs.Prelude.{option_and_then, slice_get}
use Rattle.gufi_core.specs.declared.state.WorkerState.{WorkerState}
use Rattle.gufi_core.specs.declared.state.JobState.{JobState}
use Rattle.gufi_core.specs.Steps.{with_workers}
use Rattle.gufi_core.specs.Running.{Stepped, workers_after}
use Rattle.gufi_core.proofs.Acts.{acted, fills}
use Rattle.gufi_core.proofs.job.Job.act.Goals as goal

pub returns : goal.returns
returns c =
    let lt : c.self.inside.shape < length c.args.shapes.now = c.if-place-shapes.false in
    let new = c.act_on.new.workers in
    let done = subst (λ (ws : List WorkerState). Stepped (workers_after c.args.action c.index-shapes-place.result ws) new c.act_on.result) c.deref_mut.ensures.value c.act_on.ensures in
    let old : JobState = record { number = c.self.inside.number; shape = c.self.inside.shape; workers = c.self.inside.workers.items } in
    let len : c.self.inside.workers.len ≡ length new = omega (arith, ap length c.deref_mut.ensures.value) in
    let back = fills c.self.inside.workers.len c.self.inside.workers.items new len in
    let on_old = acted old c.args.shapes.now c.args.action c.index-shapes-place.result new c.act_on.result lt c.index-shapes-place.is done in
    let on_self = subst (λ (job : JobState). Stepped (with_workers job (option_and_then (λ shape. workers_after c.args.action shape job.workers) (slice_get c.args.shapes.now job.shape))) (record { number = old.number; shape = old.shape; workers = new }) c.act_on.result)
    c.self.view_is on_old in
    let self : JobState = c.args.self.now in
    subst (λ (ws : List WorkerState). Stepped (with_workers self (option_and_then (λ shape. workers_after c.args.action shape self.workers) (slice_get c.args.shapes.now self.shape))) (record { number = old.number; shape = old.shape; workers = ws }) c.act_on.result)
    (sym back) on_self
