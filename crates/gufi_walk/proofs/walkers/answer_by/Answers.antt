use Rattle.std.proofs.Common.{◌≡◌, ◌∙◌, ℕ, Bool, List, length, ap, subst, arith}
use Rattle.std.specs.List.{flat_map, concat}
use Rattle.std.proofs.lemmas.Result.{IfOk-weaker}
use Rattle.gufi_base.specs.declared.record.Row.{Row}
use Rattle.gufi_base.specs.Paths.{Components}
use Rattle.gufi_tree.specs.Tree.{Directory}
use Rattle.gufi_tree.specs.Places.{path_at}
use Rattle.gufi_walk.specs.Answer.{answer}
use Rattle.gufi_walk.specs.Chunks.{chunks_in}
use Rattle.gufi_walk.specs.Walk.{meets, is_whole, task_rows}
use Rattle.gufi_walk.proofs.Tasks.{walk_shape, tasks_answer, tasks_few}
use Rattle.gufi_walk.proofs.Joins.{hold_all}
use Rattle.gufi_walk.proofs.walkers.answer_by.Goals as goal

pub run_pool-requires-clause-shape : goal.run_pool-requires-clause-shape
run_pool-requires-clause-shape g c κs within =
    walk_shape c.args.snap.now.tree c.args.who.now c.tree.ensures.shape (is_whole (g.S.Skip.skips c.args.skip.now) (g.S.Skip.deepest c.args.skip.now) c.depth_of-above.result c.args.snap.now.tree c.args.who.now c.grain_for-grain.result) c.args.snap.now.limit c.args.start.0 c.requires.start c.requires.listed

pub rows_of_pieces-requires : goal.rows_of_pieces-requires
rows_of_pieces-requires g c =
    let snap = c.args.snap.now in
    let takes_all : Components → Bool = is_whole (g.S.Skip.skips c.args.skip.now) (g.S.Skip.deepest c.args.skip.now) c.depth_of-above.result c.args.snap.now.tree c.args.who.now c.grain_for-grain.result in
    let met : Row → Bool = meets (g.P.Pred.sat c.args.pred.now) c.depth_of-above.result in
    let rows_of : ℕ → List Row = task_rows takes_all snap.tree c.args.who.now snap.limit met in
    let once = c.in_ok-pieces.ensures.once in (
      flat_map rows_of (concat once.lists),
      hold_all g.Y.Yield.stands_for chunks_in rows_of _ (λ p ran h. h.0) c.in_ok-pieces.pieces.items once.lists once.each,
      omega (
        arith,
        tasks_few snap.tree c.args.who.now c.tree.ensures.shape takes_all snap.limit c.args.start.0 c.requires.start c.requires.listed _ once.allowed once.balanced met,
        c.tree.ensures.few,
      ),
    )

pub returns : goal.returns
returns g c =
    let snap = c.args.snap.now in
    let takes_all : Components → Bool = is_whole (g.S.Skip.skips c.args.skip.now) (g.S.Skip.deepest c.args.skip.now) c.depth_of-above.result c.args.snap.now.tree c.args.who.now c.grain_for-grain.result in
    let sat = g.P.Pred.sat c.args.pred.now in
    let rows_of : ℕ → ℕ → List Row = λ n. task_rows takes_all snap.tree c.args.who.now snap.limit (meets sat n) in
    let once = c.in_ok-pieces.ensures.once in
    let above : c.depth_of-above.result ≡ length (path_at snap.tree c.args.start.0) = c.depth_of-above.ensures ∙ ap (λ (ds : List Directory). length (path_at ds c.args.start.0)) c.tree.ensures.tree in
    IfOk-weaker c.rows_of_pieces.result _ _
    (λ y h.
    let got = h (flat_map (rows_of c.depth_of-above.result) (concat once.lists)) (hold_all g.Y.Yield.stands_for chunks_in (rows_of c.depth_of-above.result) _ (λ p ran h. h.0) c.in_ok-pieces.pieces.items once.lists once.each) in
    (g.met.Y.Yield g.world.𝓛 g.world.𝓜 g.world.𝓡 (λ s x. x, λ x. x, λ x. x, λ x. x)).reordered y _ (answer snap.tree c.args.who.now (path_at snap.tree c.args.start.0) sat)
    (tasks_answer snap.tree c.args.who.now c.tree.ensures.shape takes_all snap.limit c.args.start.0 c.requires.start c.requires.listed _ once.allowed once.balanced sat)
    (subst (λ n. g.Y.Yield.stands_for y (flat_map (rows_of n) (concat once.lists))) above got))
    c.rows_of_pieces.ensures
