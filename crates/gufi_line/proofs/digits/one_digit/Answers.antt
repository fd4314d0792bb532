use Rattle.std.proofs.Common.{ℕ, subst, arith}
use Rattle.gufi_base.specs.Numbers.{NumberBefore}
use Rattle.gufi_line.proofs.Pairs.{no_digits, one_more}
use Rattle.gufi_line.proofs.digits.one_digit.Goals as goal

pub returns-then-value-lt-NO_DIGIT : goal.returns-then-value-lt-NO_DIGIT
returns-then-value-lt-NO_DIGIT c =
    subst (λ (d : ℕ). NumberBefore c.args.separator c.args.text.now d 1) (let e = c.from.ensures in omega arith)
    (one_more c.args.separator c.args.text.now 0 0 c.args.value c.requires.within (omega arith) (no_digits c.args.text.now) c.requires.pair c.requires.ends c.if-value-lt-NO_DIGIT.true)
