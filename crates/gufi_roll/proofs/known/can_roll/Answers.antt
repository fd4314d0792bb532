use Rattle.std.proofs.Common.{◌&&◌, sym, ap, ◌∙◌}
use Rattle.std.specs.Prelude.{nat_le}
use Rattle.gufi_tree.specs.Places.{path_at}
use Rattle.gufi_tree.proofs.Kids.{at_place}
use Rattle.gufi_roll.specs.CanRoll.{rows_below}
use Rattle.gufi_roll.proofs.FromFlags.{can_roll-flags}
use Rattle.gufi_roll.proofs.known.can_roll.Goals as goal

pub returns-then-are_children_flagged : goal.returns-then-are_children_flagged
returns-then-are_children_flagged c =
    let d = (at_place c.args.tree.now c.args.id.0 c.requires.within).0 in
    c.has_few_rows.ensures
    ∙ sym (can_roll-flags c.args.tree.now c.dirs-count.ensures.shape c.args.limit c.args.id.0 d c.args.flags.now c.requires.within c.requires.behind
    ∙ ap (λ b. b && nat_le (rows_below c.args.tree.now (path_at c.args.tree.now c.args.id.0)) c.args.limit) (sym (c.are_children_flagged.ensures d) ∙ c.if-are_children_flagged.true))

pub returns-else-are_children_flagged : goal.returns-else-are_children_flagged
returns-else-are_children_flagged c =
    let d = (at_place c.args.tree.now c.args.id.0 c.requires.within).0 in
    c.if-are_children_flagged.false
    ∙ sym (can_roll-flags c.args.tree.now c.dirs-count.ensures.shape c.args.limit c.args.id.0 d c.args.flags.now c.requires.within c.requires.behind
    ∙ ap (λ b. b && nat_le (rows_below c.args.tree.now (path_at c.args.tree.now c.args.id.0)) c.args.limit) (sym (c.are_children_flagged.ensures d) ∙ c.if-are_children_flagged.false))
