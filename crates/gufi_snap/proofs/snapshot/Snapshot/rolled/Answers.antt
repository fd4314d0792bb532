use Rattle.std.proofs.Common.{Bool, List, get_or, ap, ◌∙◌}
use Rattle.std.proofs.lemmas.List.{get_or-map}
use Rattle.gufi_tree.specs.Tree.{Directory}
use Rattle.gufi_tree.proofs.Kids.{at_place}
use Rattle.gufi_roll.specs.CanRoll.{can_roll, roll_flags}
use Rattle.gufi_snap.specs.Snap.{Snap}
use Rattle.gufi_snap.proofs.snapshot.Snapshot.rolled.Goals as goal

pub returns : goal.returns
returns c =
    let tree = c.args.self.now.tree in
    let limit = c.args.self.now.limit in
    let k = c.args.id.0 in
    let d : Directory = (at_place tree k c.requires).0 in
    let flags = c.self.invariant ∙ ap (λ (s : Snap). roll_flags s.tree s.limit) c.self.view_is in
    c.index.ensures ∙ ap (λ (l : List Bool). get_or l k c.index.result.now) flags
    ∙ get_or-map (λ (dir : Directory). can_roll tree limit dir.path) tree k d c.index.result.now c.requires
    ∙ ap (λ (dir : Directory). can_roll tree limit dir.path) ((at_place tree k c.requires).3 d)
    ∙ ap (can_roll tree limit) (at_place tree k c.requires).2
