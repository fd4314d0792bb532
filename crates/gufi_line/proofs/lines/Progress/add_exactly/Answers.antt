use Rattle.gufi_line.proofs.LinesTaken.{line_taken, line_stops}
use Rattle.gufi_line.proofs.lines.Progress.add_exactly.Goals as goal

pub returns-in_ok-push-in-Ok-clause-ok : goal.returns-in_ok-push-in-Ok-clause-ok
returns-in_ok-push-in-Ok-clause-ok c = line_taken c.args.delim c.args.self.now c.settle_root.new.self c.args.text.now c.in-Ok.line c.push.new.self c.in_ok-settle_root.ensures c.in-Ok.ensures.line c.in_ok-push-in-Ok.ensures

pub returns-in-Err-Fault-clause-err : goal.returns-in-Err-Fault-clause-err
returns-in-Err-Fault-clause-err c =
    rw c.in-Err-Fault.kind-is (line_stops c.args.delim c.args.self.now c.settle_root.new.self c.args.text.now c.in-Err-Fault.kind c.len.result c.in_ok-settle_root.ensures (rw c.in-Err-Fault.field-0-is at c.in-Err-Fault.ensures.line) c.len.ensures.is)
