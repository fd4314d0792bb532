use Rattle.std.proofs.Common.{arith}
use Rattle.gufi_roll.proofs.Tops.{report_done}
use Rattle.gufi_roll.proofs.report.roll_report.Goals as goal

pub returns : goal.returns
returns c =
    report_done c.args.tree.now c.dirs-dirs.ensures.shape c.args.flags.now c.requires c.loop-place.place c.loop-place.report (omega (arith, c.dirs-dirs.ensures.count)) c.loop-place.invariant
