use Rattle.std.proofs.Common.{◌<◌, ◌^◌, ◌+◌, ◌*◌, ℕ, sym, subst, arith}
use Rattle.gufi_base.specs.Numbers.{NumberBefore}
use Rattle.gufi_line.proofs.Pairs.{near, one_more, no_more}
use Rattle.gufi_line.proofs.digits.end_in_pair.Goals as goal

pub overflow_mul-result : goal.overflow_mul-result
overflow_mul-result c =
    let few : c.args.number < 10 ^ 14 = near c.args.number c.args.at c.requires.front.small (omega (arith, c.requires.few)) in omega arith

pub overflow_add-result : goal.overflow_add-result
overflow_add-result c =
    let few : c.args.number < 10 ^ 14 = near c.args.number c.args.at c.requires.front.small (omega (arith, c.requires.few)) in
    let digit = c.from.ensures in
    let small = c.if-value-lt-NO_DIGIT.true in
    omega arith

pub returns-then-value-lt-NO_DIGIT : goal.returns-then-value-lt-NO_DIGIT
returns-then-value-lt-NO_DIGIT c =
    subst (λ (d : ℕ). NumberBefore c.args.separator c.args.text.now (c.args.number * 10 + d) (c.args.at + 1)) (sym c.from.ensures)
    (one_more c.args.separator c.args.text.now c.args.number c.args.at c.args.value c.requires.within (omega (arith, c.requires.few)) c.requires.front c.requires.pair c.requires.ends c.if-value-lt-NO_DIGIT.true)

pub returns-then-value-eq-NO_DIGIT : goal.returns-then-value-eq-NO_DIGIT
returns-then-value-eq-NO_DIGIT c = no_more c.args.separator c.args.text.now c.args.number c.args.at c.args.value c.requires.within (omega (arith, c.requires.few)) c.requires.front c.requires.pair c.if-value-eq-NO_DIGIT.true c.requires.some
