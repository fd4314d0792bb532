use Rattle.std.proofs.Common.{◌≡◌, ℕ, List, get_or, sym, subst, arith}
use Rattle.std.proofs.lemmas.List.{append-nil}
use Rattle.gufi_tree.specs.Tree.{Directory, own_rows}
use Rattle.gufi_tree.specs.declared.tree.DirId.{DirId}
use Rattle.gufi_tree.proofs.Kids.{at_place, rows_under}
use Rattle.gufi_base.specs.Paths.{Components}
use Rattle.gufi_sums.specs.declared.summary.Summary.{Summary}
use Rattle.gufi_sums.specs.Total.{IsTotal}
use Rattle.gufi_snap.proofs.Growing.{later_at, under_room, under_more, under_all}
use Rattle.gufi_snap.proofs.sums.sum_under.Goals as goal

kid_total : (tree : List Directory) (sums : List Summary) (k : ℕ) (path : Components) (sum : Summary) → sum ≡ get_or sums k sum → IsTotal (get_or sums k sum) (rows_under tree path) → IsTotal sum (rows_under tree path)
kid_total tree sums k path sum e h = subst (λ (x : Summary). IsTotal x (rows_under tree path)) (sym e) h

abbrev nowhere : DirId
nowhere = record { 0 = 0 }

pub loop-kid-init : goal.loop-kid-init
loop-kid-init c = λ d. subst (IsTotal _) (sym (append-nil (own_rows (get_or c.args.tree.now c.args.id.0 d)))) (subst (λ (x : Summary). IsTotal x (own_rows (get_or c.args.tree.now c.args.id.0 d))) (sym (c.own.ensures c.own.result.now)) (c.requires.own.each c.args.id.0 d c.own.result.now c.requires.id))

pub below-requires : goal.below-requires
below-requires c =
    let l = later_at c.args.tree.now c.requires.shape c.requires.few c.args.id.0 c.requires.id c.subdirs-kid-items.result.now c.subdirs-kid-items.ensures c.loop-kid.kid-index nowhere c.loop-kid-test.true in
    let a = l.within in
    let b = c.requires.len in
    omega arith

pub join-requires-clause-room : goal.join-requires-clause-room
join-requires-clause-room c =
    let l = later_at c.args.tree.now c.requires.shape c.requires.few c.args.id.0 c.requires.id c.subdirs-kid-items.result.now c.subdirs-kid-items.ensures c.loop-kid.kid-index nowhere c.loop-kid-test.true in
    let later = l.later in
    let d = (at_place c.args.tree.now c.args.id.0 c.requires.id).0 in
    under_room c.args.tree.now c.requires.shape c.requires.few c.args.id.0 c.requires.id c.subdirs-kid-items.result.now c.subdirs-kid-items.ensures c.loop-kid.kid-index nowhere d _ _ c.loop-kid-test.true
    (c.loop-kid.invariant d) (kid_total c.args.tree.now c.args.sums.now.below _ _ c.below.result.now (c.below.ensures c.below.result.now) (c.requires.behind _ c.below.result.now (omega arith) l.within))

pub join-requires-clause-in_bounds : goal.join-requires-clause-in_bounds
join-requires-clause-in_bounds c = (c.loop-kid.invariant (at_place c.args.tree.now c.args.id.0 c.requires.id).0).bounded

pub join-requires-clause-other_in_bounds : goal.join-requires-clause-other_in_bounds
join-requires-clause-other_in_bounds c =
    let l = later_at c.args.tree.now c.requires.shape c.requires.few c.args.id.0 c.requires.id c.subdirs-kid-items.result.now c.subdirs-kid-items.ensures c.loop-kid.kid-index nowhere c.loop-kid-test.true in
    let later = l.later in
    (kid_total c.args.tree.now c.args.sums.now.below _ _ c.below.result.now (c.below.ensures c.below.result.now) (c.requires.behind _ c.below.result.now (omega arith) l.within)).bounded

pub loop-kid-preserved : goal.loop-kid-preserved
loop-kid-preserved c = λ d.
    let l = later_at c.args.tree.now c.requires.shape c.requires.few c.args.id.0 c.requires.id c.subdirs-kid-items.result.now c.subdirs-kid-items.ensures c.loop-kid.kid-index nowhere c.loop-kid-test.true in
    let later = l.later in
    under_more c.args.tree.now c.requires.shape c.requires.few c.args.id.0 c.requires.id c.subdirs-kid-items.result.now c.subdirs-kid-items.ensures c.loop-kid.kid-index nowhere d _ _ _ c.loop-kid-test.true
    (c.loop-kid.invariant d) (kid_total c.args.tree.now c.args.sums.now.below _ _ c.below.result.now (c.below.ensures c.below.result.now) (c.requires.behind _ c.below.result.now (omega arith) l.within)) c.join.ensures.sum c.join.ensures.bounded

pub returns : goal.returns
returns c =
    let d = (at_place c.args.tree.now c.args.id.0 c.requires.id).0 in
    under_all c.args.tree.now c.requires.shape c.requires.few c.args.id.0 c.requires.id c.subdirs-kid-items.result.now c.subdirs-kid-items.ensures d c.loop-kid.sum c.loop-kid.kid-index c.loop-kid-test.false (c.loop-kid.invariant d)
