use Rattle.std.proofs.Common.{◌≡◌, ◌<◌, length, ap, ◌∙◌, List, get_or}
use Rattle.std.specs.Prelude.{filter}
use Rattle.std.proofs.lemmas.List.{take_all}
use Rattle.std.proofs.lemmas.List.Elements.{recursion_from_All}
use Rattle.gufi_tree.specs.Tree.{Directory}
use Rattle.gufi_tree.specs.Places.{path_at, child_ids}
use Rattle.gufi_tree.specs.declared.tree.DirId.{DirId}
use Rattle.gufi_tree.proofs.Built.{All-Has}
use Rattle.gufi_tree.proofs.Kids.{Has-get_or}
use Rattle.gufi_walk.specs.Walk.{lists_at}
use Rattle.gufi_walk.proofs.Walked.{children_within}
use Rattle.gufi_usage.proofs.Descents.{filter_more}
use Rattle.gufi_usage.proofs.near.open_subdirs.Goals as goal

abbrev nowhere : DirId
nowhere = record { 0 = 0 }

pub add_if_open-requires : goal.add_if_open-requires
add_if_open-requires c =
    let tree = c.args.snap.now.tree in
    let ids = c.subdirs-kid-items.result.now in
    let same : ids ≡ child_ids tree (path_at tree c.args.id.0) = c.subdirs-kid-items.ensures ∙ ap (λ (ds : List Directory). child_ids ds (path_at ds c.args.id.0)) c.tree.ensures.tree in
    All-Has (λ (id : DirId). id.0 < length tree) ids (get_or ids c.loop-kid.kid-index nowhere) (recursion_from_All _ ids (children_within tree (path_at tree c.args.id.0) ids same)) (Has-get_or ids c.loop-kid.kid-index nowhere c.loop-kid-test.true)

pub loop-kid-preserved : goal.loop-kid-preserved
loop-kid-preserved c =
    filter_more (λ id. lists_at c.args.snap.now.tree c.args.who.now (path_at c.args.snap.now.tree id.0)) c.subdirs-kid-items.result.now c.loop-kid.kid-index nowhere c.loop-kid.kids.items c.add_if_open.new.kids.items c.loop-kid-test.true
    c.loop-kid.invariant c.in_ok-add_if_open.ensures

pub returns : goal.returns
returns c =
    let tree = c.args.snap.now.tree in
    let p = λ (id : DirId). lists_at tree c.args.who.now (path_at tree id.0) in
    let same : c.subdirs-kid-items.result.now ≡ child_ids tree (path_at tree c.args.id.0) = c.subdirs-kid-items.ensures ∙ ap (λ (ds : List Directory). child_ids ds (path_at ds c.args.id.0)) c.tree.ensures.tree in
    c.loop-kid.invariant ∙ ap (filter p) (take_all c.loop-kid.kid-index c.subdirs-kid-items.result.now c.loop-kid-test.false ∙ same)
