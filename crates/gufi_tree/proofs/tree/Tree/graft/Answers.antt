use Rattle.std.proofs.Common.{◌+◌, ◌<◌, ◌^◌, List, length, flat_map, sym, ap, subst, arith, ◌∙◌}
use Rattle.gufi_tree.specs.Tree.{Directory, own_rows, HasTreeShape}
use Rattle.gufi_tree.specs.Kept.{HasParents}
use Rattle.gufi_tree.proofs.GraftParents.{graft_has_parents, graft_size, some_below}
use Rattle.gufi_tree.proofs.GraftShape.{graft_made, graft_shape}
use Rattle.gufi_tree.proofs.Joined.{no_more_dirs}
use Rattle.gufi_tree.proofs.Ranges.{below_within}
use Rattle.gufi_tree.proofs.tree.Tree.graft.Goals as goal

pub graft_dirs-requires-clause-end : goal.graft_dirs-requires-clause-end
graft_dirs-requires-clause-end c =
    let within = below_within c.args.self.now c.args.at.0 c.kept.ensures.shape.order c.requires.within in
    let count = c.requires.count in
    let same = ap length c.kept.ensures.value in
    omega arith

pub graft_parents-requires-clause-at : goal.graft_parents-requires-clause-at
graft_parents-requires-clause-at c =
    let some = some_below c.args.self.now c.args.at.0 c.requires.within in
    let count = c.requires.count in
    omega arith

pub graft_parents-requires-clause-end : goal.graft_parents-requires-clause-end
graft_parents-requires-clause-end c =
    let within = below_within c.args.self.now c.args.at.0 c.kept.ensures.shape.order c.requires.within in
    let count = c.requires.count in
    let len = c.parents.ensures.len in
    omega arith

pub graft_parents-requires-clause-few : goal.graft_parents-requires-clause-few
graft_parents-requires-clause-few c =
    let is = graft_made c.args.self.now c.args.part.now _ _ _ c.args.at.0 c.args.count c.kept.ensures.shape c.kept-2.ensures.shape c.requires.within c.requires.count c.kept.ensures.value c.kept-2.ensures.value c.in_ok-dirs.ensures in
    let few = no_more_dirs c.in_ok-dirs.dirs in
    let rows = ap (λ (ds : List Directory). length (flat_map own_rows ds)) is in
    let room = c.requires.rows in
    let within = below_within c.args.self.now c.args.at.0 c.kept.ensures.shape.order c.requires.within in
    let count = c.requires.count in
    let same = ap length c.kept.ensures.value in
    let same_part = ap length c.kept-2.ensures.value in
    let size = graft_size c.in_ok-dirs.dirs c.kept.result.now c.kept-2.result.now _ c.args.at.0 (c.args.at.0 + c.args.count) c.in_ok-dirs.ensures (omega arith) (omega arith) in
    let len = c.parents.ensures.len in
    let len_part = c.parents-2.ensures.len in
    let all = c.kept.ensures.few in
    (omega arith, omega arith)

pub with_parents-requires-clause-parents : goal.with_parents-requires-clause-parents
with_parents-requires-clause-parents c =
    let is = graft_made c.args.self.now c.args.part.now _ _ _ c.args.at.0 c.args.count c.kept.ensures.shape c.kept-2.ensures.shape c.requires.within c.requires.count c.kept.ensures.value c.kept-2.ensures.value c.in_ok-dirs.ensures in
    subst (λ (ds : List Directory). HasParents ds c.in_ok-parents.parents.items) (sym is)
    (graft_has_parents c.args.self.now c.args.part.now c.args.at.0 c.args.count c.parents.result.now c.parents-2.result.now c.in_ok-parents.parents.items c.kept.ensures.shape c.kept-2.ensures.shape c.requires.within c.requires.count
    c.parents.ensures c.parents-2.ensures c.in_ok-parents.ensures)

pub with_parents-requires-clause-few : goal.with_parents-requires-clause-few
with_parents-requires-clause-few c =
    let is = graft_made c.args.self.now c.args.part.now _ _ _ c.args.at.0 c.args.count c.kept.ensures.shape c.kept-2.ensures.shape c.requires.within c.requires.count c.kept.ensures.value c.kept-2.ensures.value c.in_ok-dirs.ensures in
    let few = no_more_dirs c.in_ok-dirs.dirs in
    let rows = ap (λ (ds : List Directory). length (flat_map own_rows ds)) is in
    let room = c.requires.rows in
    omega arith

pub with_parents-requires-clause-rows : goal.with_parents-requires-clause-rows
with_parents-requires-clause-rows c =
    let is = graft_made c.args.self.now c.args.part.now _ _ _ c.args.at.0 c.args.count c.kept.ensures.shape c.kept-2.ensures.shape c.requires.within c.requires.count c.kept.ensures.value c.kept-2.ensures.value c.in_ok-dirs.ensures in
    subst (λ (ds : List Directory). length (flat_map own_rows ds) < 2 ^ 32) (sym is) c.requires.rows

pub with_parents-requires-clause-shape : goal.with_parents-requires-clause-shape
with_parents-requires-clause-shape c =
    let is = graft_made c.args.self.now c.args.part.now _ _ _ c.args.at.0 c.args.count c.kept.ensures.shape c.kept-2.ensures.shape c.requires.within c.requires.count c.kept.ensures.value c.kept-2.ensures.value c.in_ok-dirs.ensures in
    subst HasTreeShape (sym is) (graft_shape c.args.self.now c.args.part.now c.args.at.0 c.kept.ensures.shape c.kept-2.ensures.shape c.requires.within)

pub returns : goal.returns
returns c =
    c.in_ok-with_parents.ensures ∙ graft_made c.args.self.now c.args.part.now _ _ _ c.args.at.0 c.args.count c.kept.ensures.shape c.kept-2.ensures.shape c.requires.within c.requires.count c.kept.ensures.value c.kept-2.ensures.value c.in_ok-dirs.ensures
