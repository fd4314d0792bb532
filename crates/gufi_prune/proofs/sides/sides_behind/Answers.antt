use Rattle.std.proofs.Common.{sym, ◌∙◌}
use Rattle.gufi_prune.proofs.SidesLemmas.{hint_leaves}
use Rattle.gufi_prune.proofs.sides.sides_behind.Goals as goal

pub with_hint-requires : goal.with_hint-requires
with_hint-requires c =
    let kept = c.hints.invariant in
    let next = hint_leaves _ c.args.hints.now c.hints.hint-index kept.0 c.requires.0 c.hints-test.true (kept.2 ∙ c.requires.1) in
    (kept.0, next.0, kept.1, next.1)

pub hints-preserved : goal.hints-preserved
hints-preserved c =
    let kept = c.hints.invariant in
    let next = hint_leaves _ c.args.hints.now c.hints.hint-index kept.0 c.requires.0 c.hints-test.true (kept.2 ∙ c.requires.1) in
    (next.0, c.in_ok-stack.ensures kept.0 next.0 kept.1 next.1, next.2 ∙ sym c.requires.1)
