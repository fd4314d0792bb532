use Rattle.std.proofs.Common.{arith}
use Rattle.gufi_base.proofs.Digits.{room}
use Rattle.gufi_base.proofs.number.short_number.Goals as goal

pub overflow_mul-number : goal.overflow_mul-number
overflow_mul-number c =
    let few = room c.loop-byte.number c.loop-byte.byte-index c.loop-byte.invariant.small (omega arith) in omega arith

pub overflow_add-number : goal.overflow_add-number
overflow_add-number c =
    let few = room c.loop-byte.number c.loop-byte.byte-index c.loop-byte.invariant.small (omega arith) in omega (arith, c.in_ok-number.ensures)
