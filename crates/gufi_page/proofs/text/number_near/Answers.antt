use Rattle.std.proofs.Common.{arith}
use Rattle.gufi_page.proofs.Numbers.{number_begun, number_of}
use Rattle.gufi_page.proofs.text.number_near.Goals as goal

pub returns-then-is_number : goal.returns-then-is_number
returns-then-is_number c = number_of c.args.stems.now c.args.k c.args.tried (c.is_number.ensures c.if-is_number.true)

pub returns-then-is_number-2 : goal.returns-then-is_number-2
returns-then-is_number-2 c = number_of c.args.stems.now c.args.k c.saturating_add-next.result (c.is_number-2.ensures c.if-is_number-2.true)

pub returns : goal.returns
returns c =
    let e = number_begun c.args.stems.now c.args.k c.count_begun.result c.count_begun.ensures in
    omega (arith, e, c.saturating_sub.ensures)
