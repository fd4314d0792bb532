use Rattle.std.proofs.Common.{Bool, sym, ap, ◌∙◌, arith}
use Rattle.std.specs.List.{list_all}
use Rattle.gufi_tree.specs.declared.tree.DirId.{DirId}
use Rattle.gufi_roll.specs.Below.{is_child_flagged}
use Rattle.gufi_roll.proofs.FromFlags.{kid_at, one_fails, one_more, all_passed}
use Rattle.gufi_roll.proofs.known.are_children_flagged.Goals as goal

pub is_child_flagged-requires-clause-child : goal.is_child_flagged-requires-clause-child
is_child_flagged-requires-clause-child c =
    kid_at c.args.tree.now c.dirs-count.ensures.shape c.args.id.0 c.subdirs-child-items.result.now c.loop-child.child-index _ c.requires.within c.subdirs-child-items.ensures c.loop-child-test.true

pub returns-then-not-is_child_flagged : goal.returns-then-not-is_child_flagged
returns-then-not-is_child_flagged c = λ d.
    let test : DirId → Bool = is_child_flagged c.args.tree.now c.args.flags.now c.args.id.0 d in
    sym (ap (list_all test) (sym c.subdirs-child-items.ensures)
    ∙ one_fails test c.subdirs-child-items.result.now c.loop-child.child-index (record { 0 = 0 }) c.loop-child-test.true (sym (c.is_child_flagged.ensures d) ∙ c.if-not-is_child_flagged.true))

pub loop-child-preserved : goal.loop-child-preserved
loop-child-preserved c = λ d.
    one_more (is_child_flagged c.args.tree.now c.args.flags.now c.args.id.0 d) c.subdirs-child-items.result.now c.loop-child.child-index (record { 0 = 0 }) c.loop-child-test.true
    (c.loop-child.invariant d) (sym (c.is_child_flagged.ensures d) ∙ c.if-not-is_child_flagged.false)

pub returns : goal.returns
returns c = λ d.
    let test : DirId → Bool = is_child_flagged c.args.tree.now c.args.flags.now c.args.id.0 d in
    sym (ap (list_all test) (sym c.subdirs-child-items.ensures)
    ∙ all_passed test c.subdirs-child-items.result.now c.loop-child.child-index (omega arith) (c.loop-child.invariant d))
