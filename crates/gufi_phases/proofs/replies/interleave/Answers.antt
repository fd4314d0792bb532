use Rattle.std.proofs.Common.{rules, arith, zero-le, ap}
use Rattle.std.proofs.lemmas.Grind.{common_steps}
use Rattle.gufi_phases.specs.Lanes.{joined}
use Rattle.gufi_phases.proofs.Interleaving.{interleaved_none, interleaved_step}
use Rattle.gufi_phases.proofs.replies.interleave.Goals as goal

pub loop-at-init : goal.loop-at-init
loop-at-init g c = record { few = zero-le; mixed = interleaved_none g.row.C.Denot g.row.Q.Denot _ _ c.new-numbers.result.items (joined c.new-parts.result.items) c.new-numbers.ensures.items (ap joined c.new-parts.ensures.items) }

pub loop-at-preserved : goal.loop-at-preserved
loop-at-preserved g c =
    let l = c.loop-at in let h = c.in_ok-hit.ensures.added in let few = l.invariant.few in let one = c.in_ok-hit.ensures.few in record {
      few = omega arith;
      mixed = interleaved_step _ _ c.args.acts.now l.at _ c.loop-at-test.true (first_of (search rules, grind (arith, common_steps))) l.numbers.items l.hits (joined l.parts.items) _ _ h.0 c.in_ok-hit.hit h.1 h.2 h.3 l.invariant.mixed h.4;
    }
