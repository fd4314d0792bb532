use Rattle.std.proofs.Common.{◌∙◌, ◌≡◌, List, [], length, filter, subst, ap, arith}
use Rattle.std.specs.List.{flat_map}
use Rattle.std.proofs.lemmas.List.Sorted.{IsPermutation-refl, length_permutation}
use Rattle.gufi_base.specs.Paths.{Components}
use Rattle.gufi_base.specs.Rows.{home}
use Rattle.gufi_tree.specs.Tree.{Directory, all_rows}
use Rattle.gufi_tree.specs.Listed.{is_listed}
use Rattle.gufi_tree.specs.Places.{path_at}
use Rattle.gufi_snap.specs.Pieces.{front}
use Rattle.gufi_walk.specs.Answer.{answer}
use Rattle.gufi_walk.specs.Walk.{meets, shown_piece}
use Rattle.gufi_walk.proofs.Bounded.{start_within}
use Rattle.gufi_walk.proofs.Walked.{IsOpenTop-at, filtered_fewer, listed_at_top, answer-by_pieces}
use Rattle.gufi_walk.proofs.descent.answer_from.Goals as goal

pub add_rows_below-requires-clause-above : goal.add_rows_below-requires-clause-above
add_rows_below-requires-clause-above g c =
    omega (arith, c.depth_of-above.ensures, ap (λ (ds : List Directory). length (path_at ds c.args.start.0)) c.tree.ensures.tree)

pub add_rows_below-requires-clause-within : goal.add_rows_below-requires-clause-within
add_rows_below-requires-clause-within g c =
    let deep : c.depth_of-above.result ≡ length (path_at c.args.snap.now.tree c.args.start.0) = c.depth_of-above.ensures ∙ ap (λ (ds : List Directory). length (path_at ds c.args.start.0)) c.tree.ensures.tree in
    start_within (g.S.Skip.deepest c.args.skip.now) c.depth_of-above.result (length (path_at c.args.snap.now.tree c.args.start.0)) (omega arith)

pub add_rows_below-requires-clause-room : goal.add_rows_below-requires-clause-room
add_rows_below-requires-clause-room g c =
    let snap = c.args.snap.now in
    let start : Components = path_at snap.tree c.args.start.0 in
    let law = g.met.Y.Yield.counted in
    let top = IsOpenTop-at snap.tree c.args.who.now c.tree.ensures.shape c.args.start.0 c.requires.start c.requires.listed in
    omega (
      arith,
      law _ _ c.in_ok-rows.ensures,
      length_permutation _ _ (listed_at_top snap.tree c.args.who.now c.tree.ensures.shape snap.limit start top),
      filtered_fewer (λ row. is_listed snap.tree c.args.who.now start (home row)) (all_rows snap.tree),
      c.tree.ensures.few,
    )

pub returns-clause-rows : goal.returns-clause-rows
returns-clause-rows g c =
    let snap = c.args.snap.now in
    let start : Components = path_at snap.tree c.args.start.0 in
    let sat = g.P.Pred.sat c.args.pred.now in
    let law = g.met.Y.Yield.reordered in
    let top = IsOpenTop-at snap.tree c.args.who.now c.tree.ensures.shape c.args.start.0 c.requires.start c.requires.listed in
    let deep : c.depth_of-above.result ≡ length start = c.depth_of-above.ensures ∙ ap (λ (ds : List Directory). length (path_at ds c.args.start.0)) c.tree.ensures.tree in
    let all : List Components = front snap.tree c.args.who.now start snap.limit in
    let rows = rw c.in_ok-tester.ensures at c.in_ok-add_rows_below.ensures.rows [] c.in_ok-rows.ensures in
    law c.add_rows_below.new.out (filter (meets sat (length start)) (flat_map (shown_piece snap.tree c.args.who.now snap.limit) all)) (answer snap.tree c.args.who.now start sat)
    (answer-by_pieces snap.tree c.args.who.now c.tree.ensures.shape snap.limit start top all (IsPermutation-refl all) sat)
    (subst (λ n. g.Y.Yield.stands_for c.add_rows_below.new.out (filter (meets sat n) (flat_map (shown_piece snap.tree c.args.who.now snap.limit) all))) deep rows)
