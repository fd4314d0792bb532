use Rattle.std.proofs.Common.{arith, ap, ◌≡◌}
use Rattle.gufi_phases.specs.Phases.{commands_in}
use Rattle.gufi_phases.proofs.Publishing.{full_if}
use Rattle.gufi_phases.proofs.publish.publish_act.Goals as goal

pub returns-in-Publish-clause-full : goal.returns-in-Publish-clause-full
returns-in-Publish-clause-full g c =
    let one : commands_in c.args.act.now ≡ 1 = ap commands_in c.in-Publish.is in
    full_if c.publish_one.result (λ full. omega arith) c.publish_one.ensures.full
