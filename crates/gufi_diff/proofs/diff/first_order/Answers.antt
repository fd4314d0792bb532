use Rattle.std.proofs.Common.{arith}
use Rattle.gufi_diff.proofs.Passes.{new_ends}
use Rattle.gufi_diff.proofs.diff.first_order.Goals as goal

pub returns-then-passed-new_end-clause-order : goal.returns-then-passed-new_end-clause-order
returns-then-passed-new_end-clause-order c = new_ends c.args.old.now c.args.new.now c.args.passed.old c.args.passed.new (omega arith) (omega arith)
