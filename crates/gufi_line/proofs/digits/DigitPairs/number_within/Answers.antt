use Rattle.std.proofs.Common.{◌+◌, ◌*◌, ◌<◌, ◌≤◌, ◌^◌, ℕ, length, sym, subst, arith}
use Rattle.gufi_base.proofs.Digits.{ReadsFront}
use Rattle.gufi_line.proofs.Pairs.{near, pair_more, first_pair}
use Rattle.gufi_line.proofs.digits.DigitPairs.number_within.Goals as goal

pub overflow_mul-number : goal.overflow_mul-number
overflow_mul-number c =
    let low : c.pairs.at ≤ 14 = omega (arith, c.requires.few) in
    let few : c.pairs.number < 10 ^ 14 = near c.pairs.number c.pairs.at c.pairs.invariant.front.small low in omega arith

pub overflow_add-number : goal.overflow_add-number
overflow_add-number c =
    let low : c.pairs.at ≤ 14 = omega (arith, c.requires.few) in
    let few : c.pairs.number < 10 ^ 14 = near c.pairs.number c.pairs.at c.pairs.invariant.front.small low in
    let value = c.from.ensures in
    let small = c.if-value-ge-ONE_DIGIT.false in
    omega arith

pub pairs-preserved : goal.pairs-preserved
pairs-preserved c =
    let low : c.pairs.at + 2 ≤ 16 = omega (arith, c.requires.few) in
    let within : c.pairs.at + 1 < length c.args.text.now = omega (arith, c.requires.within) in
    record {
      few = low;
      some = omega arith;
      front = subst (λ (v : ℕ). ReadsFront c.args.text.now (c.pairs.number * 100 + v) (c.pairs.at + 2)) (sym c.from.ensures)
          (pair_more c.args.self.now c.args.text.now c.pairs.number c.pairs.at c.value-value.result within c.pairs.invariant.front c.value-value.ensures c.if-value-ge-ONE_DIGIT.false);
    }

pub pairs-init : goal.pairs-init
pairs-init c =
    record {
      few = omega arith;
      some = omega arith;
      front = first_pair c.args.self.now c.args.text.now _ c.value-first.result c.from-number.ensures (omega (arith, c.requires.within)) c.value-first.ensures c.if-first-ge-ONE_DIGIT.false;
    }
