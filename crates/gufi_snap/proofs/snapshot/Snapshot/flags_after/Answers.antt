use Rattle.std.proofs.Common.{ℕ, Bool, Option, List, sym, ap, ◌∙◌, subst}
use Rattle.gufi_roll.specs.CanRoll.{roll_flags}
use Rattle.gufi_roll.specs.Below.{AreKnown}
use Rattle.gufi_snap.proofs.Known.{flags_fit, place_after, shape_after, known_made}
use Rattle.gufi_snap.proofs.snapshot.Snapshot.flags_after.Goals as goal

pub known_flags-requires : goal.known_flags-requires
known_flags-requires c =
    flags_fit c.args.self.now.tree c.args.part.now c.args.at.0 c.args.self.now.limit c.tree-tree.ensures.shape c.dirs-others.ensures.shape c.requires.within c.args.count c.requires.count c.flags.result.now c.flags.ensures

pub forget_above-requires-clause-id : goal.forget_above-requires-clause-id
forget_above-requires-clause-id c =
    place_after c.args.self.now.tree c.args.part.now c.args.at.0 c.args.self.now.limit c.tree-tree.ensures.shape c.dirs-others.ensures.shape c.requires.within c.args.count c.requires.count c.flags.result.now c.flags.ensures
    c.args.tree.now c.requires.tree

pub forget_above-requires-clause-shape : goal.forget_above-requires-clause-shape
forget_above-requires-clause-shape c =
    shape_after c.args.self.now.tree c.args.part.now c.args.at.0 c.args.self.now.limit c.tree-tree.ensures.shape c.dirs-others.ensures.shape c.requires.within c.args.count c.requires.count c.flags.result.now c.flags.ensures
    c.args.tree.now c.requires.tree

pub forget_above-requires-clause-len : goal.forget_above-requires-clause-len
forget_above-requires-clause-len c =
    (known_made c.args.self.now.tree c.args.part.now c.args.at.0 c.args.self.now.limit c.tree-tree.ensures.shape c.dirs-others.ensures.shape c.requires.within c.args.count c.requires.count c.flags.result.now c.flags.ensures
    c.args.tree.now c.requires.tree c.deref.result.now (c.deref.ensures.value ∙ c.in_ok-others.ensures.value ∙ ap (roll_flags c.args.part.now) c.limit.ensures) c.in_ok-known.known.items c.in_ok-known.ensures).len

pub roll_from-requires : goal.roll_from-requires
roll_from-requires c =
    subst (λ (l : List (Option Bool)). AreKnown c.args.tree.now c.limit-2.result l) (sym c.deref-2.ensures.value)
    (subst (λ (n : ℕ). AreKnown c.args.tree.now n c.forget_above.new.known.items) (sym c.limit-2.ensures)
    (c.forget_above.ensures c.args.self.now.limit
    (known_made c.args.self.now.tree c.args.part.now c.args.at.0 c.args.self.now.limit c.tree-tree.ensures.shape c.dirs-others.ensures.shape c.requires.within c.args.count c.requires.count c.flags.result.now c.flags.ensures
    c.args.tree.now c.requires.tree c.deref.result.now (c.deref.ensures.value ∙ c.in_ok-others.ensures.value ∙ ap (roll_flags c.args.part.now) c.limit.ensures) c.in_ok-known.known.items c.in_ok-known.ensures)))
