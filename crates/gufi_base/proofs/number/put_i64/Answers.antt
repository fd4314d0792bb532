use Rattle.std.proofs.Common.{◌≡◌, ◌≤◌, ◌++◌, List, ℕ, length, arith, ap, ◌∙◌}
use Rattle.std.proofs.lemmas.Int.{to_z-of_z}
use Rattle.gufi_base.proofs.Decimals.{sign_fits, minus_put}
use Rattle.gufi_base.proofs.number.put_i64.Goals as goal

pub overflow_sub-start : goal.overflow_sub-start
overflow_sub-start c =
    sign_fits c.unsigned_abs.result c.fill_digits-start.result c.fill_digits-start.new.buffer c.fill_digits-start.ensures.digits (omega arith) (omega (arith, c.fill_digits-start.auto.buffer))

pub returns-clause-ok : goal.returns-clause-ok
returns-clause-ok c =
    let n : length c.fill_digits-start.new.buffer ≡ 21 = omega (arith, c.fill_digits-start.auto.buffer) in
    let one : 1 ≤ c.fill_digits-start.result = sign_fits c.unsigned_abs.result c.fill_digits-start.result c.fill_digits-start.new.buffer c.fill_digits-start.ensures.digits (omega arith) n in
    c.in_ok-extend_from_slice.ensures.items ∙ ap (λ (t : List ℕ). c.args.out.now.items ++ t) (minus_put c.args.number _ c.unsigned_abs.result c.fill_digits-start.result c.fill_digits-start.new.buffer
    (to_z-of_z _ _ c.ranges.number) c.if-number-ge0.false c.unsigned_abs.ensures.value c.fill_digits-start.ensures.digits one c.fill_digits-start.ensures.within n)
