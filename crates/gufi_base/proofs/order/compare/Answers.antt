use Rattle.std.proofs.Common.{◌<◌, length, get_or, arith, ap, ◌∙◌, nat_cmp}
use Rattle.gufi_base.specs.TextOrder.{rank}
use Rattle.gufi_base.proofs.Orders.{both_end, first_ends, other_ends, both_go_on}
use Rattle.gufi_base.proofs.order.compare.Goals as goal

pub returns-then-same-a : goal.returns-then-same-a
returns-then-same-a c = both_end c.common_front-same.result c.args.a.now c.args.b.now c.common_front-same.ensures.same (omega arith) (omega arith)

pub returns-else-same-a : goal.returns-else-same-a
returns-else-same-a c = other_ends c.common_front-same.result c.args.a.now c.args.b.now c.common_front-same.ensures.same (omega arith) (omega arith)

pub returns-then-same-a-2 : goal.returns-then-same-a-2
returns-then-same-a-2 c = first_ends c.common_front-same.result c.args.a.now c.args.b.now c.common_front-same.ensures.same (omega arith) (omega arith)

pub returns : goal.returns
returns c =
    let n = c.common_front-same.result in
    let in_a : n < length c.args.a.now = omega arith in
    let in_b : n < length c.args.b.now = omega arith in
    c.cmp.ensures ∙ ap (λ k. nat_cmp k c.rank-2.result) c.rank.ensures ∙ ap (nat_cmp (rank (get_or c.args.a.now n 0))) c.rank-2.ensures
    ∙ both_go_on n c.args.a.now c.args.b.now c.common_front-same.ensures.same in_a in_b (c.common_front-same.ensures.most in_a in_b)
