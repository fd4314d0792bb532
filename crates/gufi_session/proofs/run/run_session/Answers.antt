use denote.Param.Send.{sendable}
use Rattle.std.proofs.Common.{◌≡◌, ℕ, ◌<◌, ◌^◌, sym, ap, subst, arith}
use Rattle.gufi_plan.specs.Plan.{Plan, act_count}
use Rattle.gufi_plan.specs.Bounds.{publishing_of}
use Rattle.gufi_plan.specs.Asks.{AsksTell}
use Rattle.gufi_plan.proofs.Sharing.{shared_sync}
use Rattle.gufi_session.specs.Ends.{MayEndSession}
use Rattle.gufi_session.specs.Loading.{FailsBehind}
use Rattle.gufi_session.proofs.Alike.{loaded_alike}
use Rattle.gufi_session.proofs.Runs.{total_counts, total_publishing, may_end}
use Rattle.gufi_session.proofs.run.run_session.Goals as goal

pub run_session-requires-sync-Q : goal.run_session-requires-sync-Q
run_session-requires-sync-Q g c κs = search (shared_sync, sendable) depth 10

pub run_session-requires-clause-few : goal.run_session-requires-clause-few
run_session-requires-clause-few g c κs within =
    let few = c.phases.ensures.few in
    let same : act_count c.phases.result.now ≡ act_count c.args.plan.now = ap (λ p. act_count p) c.phases.ensures.phases in
    subst (λ n. n < 2 ^ 30) (sym (total_counts c.phases.result.now)) (omega arith)

-- asks with the same bytes have the same query
pub run_session-requires-clause-alike : goal.run_session-requires-clause-alike
run_session-requires-clause-alike g c κs within =
    λ files is. loaded_alike files c.phases.result.now (subst (λ p. AsksTell p) (sym c.phases.ensures.phases) c.phases.ensures.told)

pub returns-clause-ended : goal.returns-clause-ended
returns-clause-ended g c =
    let ran = c.run_session.ensures.ended in let new = c.run_session.new.shelf in
    let broke = λ (p : Plan) (count : ℕ). FailsBehind g.F.Shelf p count c.args.shelf.now new in
    record {
      text = ran.text;
      answer = subst (λ p. MayEndSession (broke p) (g.F.Shelf.files c.args.shelf.now) p c.run_session.result.end c.run_session.result.numbers.items ran.text) c.phases.ensures.phases
          (may_end (broke c.phases.result.now) (g.F.Shelf.files c.args.shelf.now) c.phases.result.now c.run_session.result.end c.run_session.result.numbers.items ran.text ran.answer);
      taken = ran.taken;
    }

-- a plan has at most as many publishing commands as may be published
pub returns-clause-never_full : goal.returns-clause-never_full
returns-clause-never_full g c = λ full.
    let many : publishing_of c.phases.result.now ≡ publishing_of c.args.plan.now = ap (λ p. publishing_of p) c.phases.ensures.phases in
    let all = total_publishing c.phases.result.now in let most = c.phases.ensures.bounded.1 in let past = c.run_session.ensures.full full in
    absurd (omega arith)
