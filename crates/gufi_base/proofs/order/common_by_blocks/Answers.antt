use Rattle.std.proofs.Common.{◌≡◌, ◌-◌, ◌≤◌, take, drop, sym, ap, ◌∙◌, subst, arith}
use Rattle.std.proofs.lemmas.List.{take-take}
use Rattle.gufi_base.proofs.Blocks.{same_more}
use Rattle.gufi_base.proofs.order.common_by_blocks.Goals as goal

pub returns-then-alike-clause-same : goal.returns-then-alike-clause-same
returns-then-alike-clause-same g c =
    same_more c.args.a.now c.args.b.now c.by_blocks.same c.alike_at-alike.result c.by_blocks.invariant.alike c.alike_at-alike.ensures.alike

pub by_blocks-preserved : goal.by_blocks-preserved
by_blocks-preserved g c =
    let whole = subst (λ r. take r (drop c.by_blocks.same c.args.a.now) ≡ take r (drop c.by_blocks.same c.args.b.now)) (omega arith) c.alike_at-alike.ensures.alike in
    record { alike = same_more c.args.a.now c.args.b.now c.by_blocks.same g.row.N c.by_blocks.invariant.alike whole; within = omega arith }

pub returns-clause-same : goal.returns-clause-same
returns-clause-same g c =
    let a = c.args.a.now in
    let b = c.args.b.now in
    let last = c.args.least - g.row.N in
    let same = c.by_blocks.same in
    let le : last ≤ same = omega arith in
    let front = sym (take-take last same a le) ∙ ap (take last) c.by_blocks.invariant.alike ∙ take-take last same b le in
    same_more a b last c.alike_at.result front c.alike_at.ensures.alike
