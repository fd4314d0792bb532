use Rattle.std.proofs.Common.{[], ◌∷◌, ◌++◌, ◌∙◌, List, subst, sym, arith}
use Rattle.gufi_base.specs.Paths.{Components}
use Rattle.gufi_tree.specs.Places.{path_at}
use Rattle.gufi_sums.specs.Total.{IsTotal}
use Rattle.gufi_sums.specs.Laws.{IsTotal-counted}
use Rattle.gufi_snap.proofs.Growing.{total_both, total_nothing}
use Rattle.gufi_walk.proofs.Walked.{IsWalk, IsWalk-start, IsWalk-more, IsWalk-all, IsOpenTop-at, walk_last, walk_room, walk_less, pieces-more, total-by_pieces}
use Rattle.gufi_walk.proofs.total.total_from.Goals as goal

pub loop-id-init : goal.loop-id-init
loop-id-init c =
    let snap = c.args.snap.now in
    let start : Components = path_at snap.tree c.args.start.0 in (
      [],
      record {
        walk = subst (IsWalk snap.tree c.args.who.now snap.limit start []) (sym c.in_ok-todo.ensures) (IsWalk-start snap.tree c.args.who.now c.tree-tree.ensures.shape snap.limit c.args.start.0 c.requires.start c.requires.listed);
        sum = total_nothing c.empty-sum.result c.empty-sum.ensures.sum c.empty-sum.ensures.bounded;
      },
    )

pub sum_of_piece-requires : goal.sum_of_piece-requires
sum_of_piece-requires c =
    (walk_last c.args.snap.now.tree c.args.who.now c.tree-tree.ensures.shape c.args.snap.now.limit _ _ _ _ _ c.loop-id.invariant.1.walk c.in-Some.ensures.items).within

pub join-requires-clause-room : goal.join-requires-clause-room
join-requires-clause-room c =
    let snap = c.args.snap.now in
    let top = IsOpenTop-at snap.tree c.args.who.now c.tree-tree.ensures.shape c.args.start.0 c.requires.start c.requires.listed in
    omega (
      arith,
      IsTotal-counted _ _ c.loop-id.invariant.1.sum,
      IsTotal-counted _ _ c.sum_of_piece.ensures,
      walk_room snap.tree c.args.who.now c.tree-tree.ensures.shape snap.limit _ _ _ _ _ c.loop-id.invariant.1.walk c.in-Some.ensures.items top,
      c.tree-tree.ensures.few,
    )

pub join-requires-clause-in_bounds : goal.join-requires-clause-in_bounds
join-requires-clause-in_bounds c = c.loop-id.invariant.1.sum.bounded

pub join-requires-clause-other_in_bounds : goal.join-requires-clause-other_in_bounds
join-requires-clause-other_in_bounds c = c.sum_of_piece.ensures.bounded

pub push_kids-requires : goal.push_kids-requires
push_kids-requires c =
    (walk_last c.args.snap.now.tree c.args.who.now c.tree-tree.ensures.shape c.args.snap.now.limit _ _ _ _ _ c.loop-id.invariant.1.walk c.in-Some.ensures.items).within

pub loop-id-smaller : goal.loop-id-smaller
loop-id-smaller c =
    walk_less c.args.snap.now.tree c.args.who.now c.tree-tree.ensures.shape c.args.snap.now.limit _ _ _ _ _ c.loop-id.invariant.1.walk c.in-Some.ensures.items _ c.in_ok-push_kids.ensures

pub loop-id-preserved : goal.loop-id-preserved
loop-id-preserved c =
    let snap = c.args.snap.now in
    let done : List Components = c.loop-id.invariant.0 in
    let inv = c.loop-id.invariant.1 in
    let path : Components = path_at snap.tree c.in-Some.id.0 in (
      done ++ path ∷ [],
      record {
        walk = IsWalk-more snap.tree c.args.who.now c.tree-tree.ensures.shape snap.limit _ done _ _ _ inv.walk c.in-Some.ensures.items _ c.in_ok-push_kids.ensures;
        sum = subst (IsTotal c.join.new.self) (sym (pieces-more snap.tree snap.limit done path)) (total_both _ _ _ _ _ inv.sum c.sum_of_piece.ensures c.join.ensures.sum c.join.ensures.bounded);
      },
    )

pub returns : goal.returns
returns c =
    let snap = c.args.snap.now in
    let start : Components = path_at snap.tree c.args.start.0 in
    let done : List Components = c.loop-id.invariant.0 in
    let top = IsOpenTop-at snap.tree c.args.who.now c.tree-tree.ensures.shape c.args.start.0 c.requires.start c.requires.listed in
    let all = IsWalk-all snap.tree c.args.who.now c.tree-tree.ensures.shape snap.limit start done c.loop-id.todo.items c.loop-id.invariant.1.walk (omega (arith, c.loop-id.todo.ok.0, c.in_default.ensures.cases)) in
    c.loop-id.invariant.1.sum.is ∙ total-by_pieces snap.tree c.args.who.now c.tree-tree.ensures.shape snap.limit start top done all
