use Rattle.gufi_phases.proofs.Ascending.{told_none, told_more}
use Rattle.gufi_phases.proofs.phase.are_ascending.Goals as goal

pub loop-lane-init : goal.loop-lane-init
loop-lane-init c = told_none

pub loop-lane-preserved : goal.loop-lane-preserved
loop-lane-preserved c = let l = c.loop-lane in told_more l.last c.args.lanes.now l.lane-index c.lane-item.result c.loop-lane-test.true c.lane-item.is c.if-lane-last.false l.invariant
