use Rattle.std.proofs.Common.{◌+◌, ◌*◌, ◌^◌, ◌≤◌, sym, ◌∙◌, arith}
use Rattle.std.proofs.lemmas.List.{drop_more, drop_all}
use Rattle.std.proofs.lemmas.Bool.{eqb-false}
use Rattle.gufi_base.proofs.Digits.{Reads-large, Reads-done, some_digits}
use Rattle.gufi_base.proofs.number.long_number.Goals as goal

pub returns-in_err-checked_mul : goal.returns-in_err-checked_mul
returns-in_err-checked_mul c =
    let e = drop_more c.args.bytes.now c.loop-byte.byte-index 0 c.loop-byte-test.true in
    let large : 2 ^ 64 ≤ c.loop-byte.number * c.args.radix + c.in_ok-digit.digit = omega (arith, c.in_err-checked_mul.ensures) in
    c.from_residual-in_err-checked_mul.ensures ∙ Reads-large c.args.radix (2 ^ 64) c.args.bytes.now c.loop-byte.number _ _ _ (rw e at c.loop-byte.invariant.read) c.in_ok-digit.ensures.1 c.requires.low large

pub returns-in_err-number : goal.returns-in_err-number
returns-in_err-number c =
    let e = drop_more c.args.bytes.now c.loop-byte.byte-index 0 c.loop-byte-test.true in
    let large : 2 ^ 64 ≤ c.loop-byte.number * c.args.radix + c.in_ok-digit.digit = omega (arith, c.in_err-number.ensures, c.in_ok-checked_mul.ensures) in
    c.from_residual-in_err-number.ensures ∙ Reads-large c.args.radix (2 ^ 64) c.args.bytes.now c.loop-byte.number _ _ _ (rw e at c.loop-byte.invariant.read) c.in_ok-digit.ensures.1 c.requires.low large

pub returns : goal.returns
returns c =
    let e = drop_all c.loop-byte.byte-index c.args.bytes.now (omega arith) in
    let some = eqb-false _ _ (sym c.is_empty.ensures ∙ c.if-is_empty.false) in
    Reads-done c.args.radix (2 ^ 64) c.args.bytes.now c.loop-byte.number (rw e at c.loop-byte.invariant.read) (some_digits c.args.bytes.now (omega arith)) c.loop-byte.invariant.fits
