use Rattle.std.proofs.Common.{◌≡◌, ◌≤◌, ◌-◌, ℕ, List, [], ◌∷◌, ◌++◌, All, Vec, sym, subst, arith}
use Rattle.std.proofs.lemmas.List.Elements.{All-cons, All-head, All-nil, All-push, All-tail}
use Rattle.std.specs.Vec.Iter.{into_iter_items}
use Rattle.std.specs.declared.alloc.Global.{Global}
use Rattle.gufi_phases.specs.declared.keeping.Lane.{Lane}
use Rattle.gufi_phases.specs.Keeping.{Keeping}
use Rattle.gufi_phases.specs.Lanes.{KeepAs}
use Rattle.gufi_phases.proofs.visitors.jobs_for.Goals as goal
use Rattle.gufi_phases.proofs.visitors.jobs_for.Goals.{in-Some-pop-2+in_ok-push-in-Some-pop-2, in-None-pop}

parted : {X : Type 0} (P : X → Type 0) (all front : List X) (x : X) → all ≡ front ++ x ∷ [] → All P all → All P front × P x
parted P all front x e held = by_front front (subst (All P) e held)
  where
    by_front : (front : List _) → All P (front ++ x ∷ []) → All P front × P x
    by_front [] held = (All-nil P, All-head P x [] held)
    by_front (a ∷ front) held =
        let rest = by_front front (All-tail P a (front ++ x ∷ []) held) in
        (All-cons P a front (All-head P a (front ++ x ∷ []) held) rest.0, rest.1)

module _ (before : ℕ → Keeping) (lanes left : List Lane) (lane : Lane) (is : lanes ≡ lane ∷ left) (told : KeepAs before lanes) where
  next_lane : lane.kept ≡ before lane.number
  next_lane = All-head (λ (l : Lane). l.kept ≡ before l.number) lane left (subst (KeepAs before) is told)

  lanes_left : KeepAs before left
  lanes_left = All-tail (λ (l : Lane). l.kept ≡ before l.number) lane left (subst (KeepAs before) is told)

  -- one more lane in a list
  one_more : (some now : List Lane) → now ≡ some ++ lane ∷ [] → KeepAs before some → KeepAs before now
  one_more some now e held = subst (KeepAs before) (sym e) (All-push (λ (l : Lane). l.kept ≡ before l.number) some lane held next_lane)

-- one more visitor with its lanes
job_more : {V : Type 0} (number : V → ℕ) (low : ℕ) (before : ℕ → Keeping) (some now : List (V × Vec Lane Global)) (visitor : V) (own : Vec Lane Global) → now ≡ some ++ (visitor, own) ∷ []
    → All (λ job. (number job.0 ≡ low) × KeepAs before job.1.items) some → number visitor ≡ low → KeepAs before own.items → All (λ job. (number job.0 ≡ low) × KeepAs before job.1.items) now
job_more {V} number low before some now visitor own e held seen told =
    let P = λ (job : V × Vec Lane Global). (number job.0 ≡ low) × KeepAs before job.1.items in
    subst (All P) (sym e) (All-push P some (visitor, own) held (seen, told))

pub loop-lane-preserved-in_ok-push : goal.loop-lane-preserved-in_ok-push
loop-lane-preserved-in_ok-push g c =
    let h = c.loop-lane.invariant in let lane = c.in-Some.lane in let lanes = into_iter_items c.loop-lane.lane-iterator in let after = into_iter_items c.next.new.self in
    let is : lanes ≡ lane ∷ after = c.in-Some.ensures.steps.0 in
    let now : c.push.new.self.items ≡ c.loop-lane.idle.items ++ lane ∷ [] = c.in_ok-push.ensures.items in
    let past : c.args.count ≤ lane.number - 1 = omega (arith, c.if-lane-count.true) in
    record {
      visitors = h.visitors;
      rest = λ before told. lanes_left before lanes after lane is (h.rest before told);
      jobs = h.jobs;
      idle = λ before told. one_more before lanes after lane is (h.rest before told) c.loop-lane.idle.items c.push.new.self.items now (h.idle before told);
      left = h.left;
      behind = subst (All (λ (l : Lane). c.args.count ≤ l.number - 1)) (sym now) (All-push (λ (l : Lane). c.args.count ≤ l.number - 1) c.loop-lane.idle.items lane h.behind past);
    }

pub loop-lane-preserved-in_ok-push-2 : goal.loop-lane-preserved-in_ok-push-2
loop-lane-preserved-in_ok-push-2 g c =
    let h = c.loop-lane.invariant in let lane = c.in-Some.lane in let lanes = into_iter_items c.loop-lane.lane-iterator in let after = into_iter_items c.next.new.self in
    let is : lanes ≡ lane ∷ after = c.in-Some.ensures.steps.0 in
    let now : c.push-then-len-le1.new.self.items ≡ c.loop-lane.left.items ++ lane ∷ [] = c.in_ok-push-2.ensures.items in
    record {
      visitors = h.visitors;
      rest = λ before told. lanes_left before lanes after lane is (h.rest before told);
      jobs = h.jobs;
      idle = h.idle;
      left = λ before told. one_more before lanes after lane is (h.rest before told) c.loop-lane.left.items c.push-then-len-le1.new.self.items now (h.left before told);
      behind = h.behind;
    }

pub loop-lane-preserved-in_ok-push-3 : goal.loop-lane-preserved-in_ok-push-3
loop-lane-preserved-in_ok-push-3 g c =
    let h = c.loop-lane.invariant in let lane = c.in-Some.lane in let lanes = into_iter_items c.loop-lane.lane-iterator in let after = into_iter_items c.next.new.self in
    let visitor = c.in-Some-pop.visitor in let own = c.in_ok-vec.field-0 in
    let is : lanes ≡ lane ∷ after = c.in-Some.ensures.steps.0 in
    let popped : c.loop-lane.visitors.items ≡ c.pop.new.self.items ++ visitor ∷ [] = c.in-Some-pop.ensures.items in
    let one : own.items ≡ lane ∷ [] = c.in_ok-vec.ensures.items in
    let now : c.push-in-Some-pop.new.self.items ≡ c.loop-lane.jobs.items ++ (visitor, own) ∷ [] = c.in_ok-push-3.ensures.items in
    record {
      visitors = λ low told. (parted (λ v. v.number ≡ low) c.loop-lane.visitors.items c.pop.new.self.items visitor popped (h.visitors low told)).0;
      rest = λ before told. lanes_left before lanes after lane is (h.rest before told);
      jobs = λ low before seen told.
          let alone : KeepAs before own.items = one_more before lanes after lane is (h.rest before told) [] own.items one (All-nil (λ (l : Lane). l.kept ≡ before l.number)) in
          job_more (λ v. v.number) low before c.loop-lane.jobs.items c.push-in-Some-pop.new.self.items visitor own now (h.jobs low before seen told)
          (parted (λ v. v.number ≡ low) c.loop-lane.visitors.items c.pop.new.self.items visitor popped (h.visitors low seen)).1 alone;
      idle = h.idle;
      left = h.left;
      behind = h.behind;
    }

pub returns-clause-jobs : goal.returns-clause-jobs
returns-clause-jobs g c = λ low before seen told.
    let h = c.loop-lane.invariant in let some = c.loop-lane.jobs.items in
    elim c.match-pop-2.branch [
      | in-Some-pop-2+in_ok-push-in-Some-pop-2 w ↦
          let visitor = w.in-Some-pop-2.visitor in let now = w.push-in-Some-pop-2.new.self.items in
          let popped : c.loop-lane.visitors.items ≡ c.pop-2.new.self.items ++ visitor ∷ [] = w.in-Some-pop-2.ensures.items in
          let own = (parted (λ v. v.number ≡ low) c.loop-lane.visitors.items c.pop-2.new.self.items visitor popped (h.visitors low seen)).1 in
          subst (λ jobs. All (λ job. (job.0.number ≡ low) × KeepAs before job.1.items) jobs.items) (sym w.jobs-is)
          (job_more (λ v. v.number) low before some now visitor c.loop-lane.left w.in_ok-push-in-Some-pop-2.ensures.items (h.jobs low before seen told) own (h.left before told))
      | in-None-pop w ↦ subst (λ jobs. All (λ job. (job.0.number ≡ low) × KeepAs before job.1.items) jobs.items) (sym w.jobs-is) (h.jobs low before seen told)
    ]
