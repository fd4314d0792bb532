use Rattle.std.proofs.Common.{◌≡◌, ◌≤◌, ◌-◌, ℕ, All}
use Rattle.std.specs.Vec.Iter.{into_iter_items}
use Rattle.gufi_phases.specs.Keeping.{Keeping}
use Rattle.gufi_phases.specs.Lanes.{KeepAs}
use Rattle.gufi_phases.proofs.visitors.jobs_for.Given as goal

abbrev pub invariant-loop-lane : goal.invariant-loop-lane
invariant-loop-lane g l = record {
  visitors : (low : ℕ) → All (λ v. v.number ≡ low) l.fn.visitors.items → All (λ v. v.number ≡ low) l.visitors.items;
  rest : (before : ℕ → Keeping) → KeepAs before l.fn.lanes.items → KeepAs before (into_iter_items l.lane-iterator);
  jobs : (low : ℕ) (before : ℕ → Keeping) → All (λ v. v.number ≡ low) l.fn.visitors.items → KeepAs before l.fn.lanes.items → All (λ job. (job.0.number ≡ low) × KeepAs before job.1.items) l.jobs.items;
  idle : (before : ℕ → Keeping) → KeepAs before l.fn.lanes.items → KeepAs before l.idle.items;
  left : (before : ℕ → Keeping) → KeepAs before l.fn.lanes.items → KeepAs before l.left.items;
  behind : All (λ lane. l.count ≤ lane.number - 1) l.idle.items;
}
