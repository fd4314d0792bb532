use Rattle.std.proofs.Common.{arith}
use Rattle.gufi_diff.proofs.Passes.{all_passed}
use Rattle.gufi_diff.proofs.diff.diff_text.Goals as goal

pub returns : goal.returns
returns c =
    all_passed c.args.old.now c.args.new.now c.rows.passed.old c.rows.passed.new c.rows.text.items _ (omega arith) (omega arith) c.rows.invariant.lines
