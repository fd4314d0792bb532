use Rattle.std.proofs.Common.{ℕ, List, sym, ap, ◌∙◌}
use Rattle.std.specs.Ordering.{is_lt}
use Rattle.gufi_base.specs.Basics.{ascends}
use Rattle.gufi_base.specs.Paths.{Components, path_cmp, is_child_of}
use Rattle.gufi_tree.specs.Tree.{Directory, entry_cmp, has_entry_named}
use Rattle.gufi_tree.proofs.Linked.{at_place}
use Rattle.gufi_tree.proofs.Steps.{sound_below}
use Rattle.gufi_tree.proofs.shape.parent_below.Goals as goal

pub has_entry-requires : goal.has_entry-requires
has_entry-requires c = at_place (λ (d : Directory). ascends entry_cmp d.entries) c.args.dirs.now c.in_ok-parent.parent c.at-2.result c.requires.distinct c.in_ok-parent.ensures.0 (c.at-2.ensures c.at-2.result)

pub returns : goal.returns
returns c =
    let dir = c.at-dir.result in
    let above = c.at-2.result in
    sound_below c.args.dirs.now c.args.place c.in_ok-parent.parent dir c.at.result above
    c.requires.place c.requires.within c.in_ok-parent.ensures.0
    (c.at-dir.ensures dir) (c.at.ensures c.at.result) (c.at-2.ensures above)
    (ap is_lt (ap (λ (p : Components). path_cmp p dir.path) (sym c.path.ensures) ∙ ap (path_cmp c.path.result) (sym c.path-2.ensures) ∙ sym c.order_of.ensures) ∙ sym c.is_lt.ensures ∙ c.if-not-is_lt.false)
    (ap (λ (d : Directory). is_child_of d.path dir.path) (c.at-2.ensures above) ∙ c.in_ok-parent.ensures.1 above)
    (ap (λ (n : List ℕ). has_entry_named n above) (sym c.stem_and_base.ensures.base) ∙ sym c.if-has_entry.ensures)
