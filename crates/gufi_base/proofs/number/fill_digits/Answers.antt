use Rattle.std.proofs.Common.{◌≡◌, ◌+◌, ◌-◌, ◌/◌, ◌%◌, ◌<◌, ◌^◌, ◌++◌, ◌∙◌, arith, ap, sym, drop, set}
use Rattle.std.specs.Prelude.{decimal}
use Rattle.std.proofs.Math.ListN.{length-set}
use Rattle.gufi_base.proofs.Decimals.{more_room, rest_fits, digits_more, digits_last}
use Rattle.gufi_base.proofs.number.fill_digits.Goals as goal

pub loop-rest-preserved : goal.loop-rest-preserved
loop-rest-preserved c =
    let rest = c.loop-rest.rest in
    let at = c.loop-rest.at in
    let buffer = c.loop-rest.buffer in
    let more : 0 < at = more_room rest at (omega arith) c.loop-rest.invariant.room in
    let place : at - 1 + 1 ≡ at = omega arith in
    let fits : rest / 10 < 10 ^ at = rest_fits rest at c.loop-rest.invariant.room in
    record {
      digits = digits_more c.args.number rest at buffer c.loop-rest.invariant.digits (omega arith) (omega arith) c.loop-rest.invariant.within ∙ ap (λ k. decimal (rest / 10) ++ drop k (set buffer at (48 + rest % 10))) (sym place);
      within = omega (arith, length-set buffer at (48 + rest % 10), c.loop-rest.invariant.within);
      small = omega arith;
      room = rw place fits;
    }

pub returns-clause-digits : goal.returns-clause-digits
returns-clause-digits c = digits_last c.args.number c.loop-rest.rest c.loop-rest.at c.loop-rest.buffer c.loop-rest.invariant.digits (omega arith) c.loop-rest.invariant.within
