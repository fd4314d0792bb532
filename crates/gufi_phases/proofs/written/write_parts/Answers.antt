use Rattle.std.proofs.Common.{take}
use Rattle.gufi_phases.specs.Lanes.{joined}
use Rattle.gufi_phases.proofs.Loads.{takes_more}
use Rattle.gufi_phases.proofs.Joined.{joined_within, where_failed}
use Rattle.gufi_phases.proofs.written.write_parts.Goals as goal

pub returns-in_err-write_whole-clause-err : goal.returns-in_err-write_whole-clause-err
returns-in_err-write_whole-clause-err g c =
    let l = c.loop-part in
    where_failed c.from_residual.result
    (joined_within _ _ c.args.parts.now l.part-index _ c.loop-part-test.true (takes_more _ _ _ (joined (take l.part-index c.args.parts.now)) _ l.invariant.written c.in_err-write_whole.ensures.err))
