use Rattle.std.proofs.Common.{sym, subst, arith}
use Rattle.std.proofs.lemmas.List.{append-nil}
use Rattle.gufi_tree.specs.Tree.{Directory, own_rows}
use Rattle.gufi_tree.specs.declared.tree.DirId.{DirId}
use Rattle.gufi_tree.proofs.Kids.{at_place}
use Rattle.gufi_sums.specs.Total.{IsTotal}
use Rattle.gufi_snap.proofs.Growing.{entries_few, later_at, under_room, under_more, under_all}
use Rattle.gufi_snap.proofs.sums.+sum_below.Goals as goal

abbrev nowhere : DirId
nowhere = record { 0 = 0 }

pub own_sum-sum-requires : goal.own_sum-sum-requires
own_sum-sum-requires t c = entries_few c.args.tree.now c.args.id.0 c.dir.result c.requires.id c.requires.few (c.dir.ensures.value c.dir.result)

pub loop-kid-init : goal.loop-kid-init
loop-kid-init t c = λ d.
    subst (IsTotal _) (sym (append-nil _)) (subst (λ (x : Directory). IsTotal c.own_sum-sum.result (own_rows x)) (c.dir.ensures.value d) c.own_sum-sum.ensures)

pub returns : goal.returns
returns t c =
    let d = (at_place c.args.tree.now c.args.id.0 c.requires.id).0 in
    under_all c.args.tree.now c.requires.shape c.requires.few c.args.id.0 c.requires.id c.subdirs-kid-items.result.now c.subdirs-kid-items.ensures d c.loop-kid.sum c.loop-kid.kid-index c.loop-kid-test.false (c.loop-kid.invariant d)

pub sum_below-requires : goal.sum_below-requires
sum_below-requires t c =
    let l = later_at c.args.tree.now c.requires.shape c.requires.few c.args.id.0 c.requires.id c.subdirs-kid-items.result.now c.subdirs-kid-items.ensures c.loop-kid.kid-index nowhere c.loop-kid-test.true in
    (omega (arith, l.later, l.within, c.decreases), (l.within, (c.requires.few, c.requires.shape)))

pub join-requires-clause-room : goal.join-requires-clause-room
join-requires-clause-room t c =
    let d = (at_place c.args.tree.now c.args.id.0 c.requires.id).0 in
    under_room c.args.tree.now c.requires.shape c.requires.few c.args.id.0 c.requires.id c.subdirs-kid-items.result.now c.subdirs-kid-items.ensures c.loop-kid.kid-index nowhere d _ _ c.loop-kid-test.true
    (c.loop-kid.invariant d) c.sum_below.ensures

pub join-requires-clause-in_bounds : goal.join-requires-clause-in_bounds
join-requires-clause-in_bounds t c = (c.loop-kid.invariant (at_place c.args.tree.now c.args.id.0 c.requires.id).0).bounded

pub loop-kid-preserved : goal.loop-kid-preserved
loop-kid-preserved t c = λ d.
    under_more c.args.tree.now c.requires.shape c.requires.few c.args.id.0 c.requires.id c.subdirs-kid-items.result.now c.subdirs-kid-items.ensures c.loop-kid.kid-index nowhere d _ _ _ c.loop-kid-test.true
    (c.loop-kid.invariant d) c.sum_below.ensures c.join.ensures.sum c.join.ensures.bounded
