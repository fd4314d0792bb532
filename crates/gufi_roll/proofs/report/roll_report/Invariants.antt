use Rattle.gufi_roll.specs.Below.{IsReport}
use Rattle.gufi_roll.proofs.report.roll_report.Given as goal

abbrev pub invariant-loop-place : goal.invariant-loop-place
invariant-loop-place l = IsReport l.tree l.flags l.place l.report
