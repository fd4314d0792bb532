use Rattle.std.proofs.Common.{◌+◌, ◌≤◌, ◌∷◌, ◌∙◌, ℕ, Bool, List, length, refl, ap, sym, subst, arith}
use Rattle.std.specs.List.{flat_map}
use Rattle.gufi_base.specs.declared.record.Row.{Row}
use Rattle.gufi_base.specs.Paths.{Components}
use Rattle.gufi_tree.specs.Places.{path_at}
use Rattle.gufi_walk.specs.declared.chunk.Chunk.{Chunk}
use Rattle.gufi_walk.specs.Chunks.{Hold}
use Rattle.gufi_walk.specs.Walk.{meets, is_whole, shown_piece, task_dirs, task_rows}
use Rattle.gufi_walk.proofs.Tasks.{place_open, place_deep}
use Rattle.gufi_walk.proofs.Joins.{hold_more, rows_more}
use Rattle.gufi_walk.proofs.Walked.{filtered_fewer, shown_as_many}
use Rattle.gufi_walk.proofs.task.WalkJob.run.Goals as goal

pub push_kids-requires-clause-above : goal.push_kids-requires-clause-above
push_kids-requires-clause-above g c =
    let w = c.args.self.now in
    omega (arith, w.above_is, place_deep w.snap.now.tree w.who.now c.tree-tree.ensures.shape (path_at w.snap.now.tree w.start.0) c.args.task c.requires.given)

pub push_kids-requires-clause-id : goal.push_kids-requires-clause-id
push_kids-requires-clause-id g c =
    let w = c.args.self.now in
    (place_open w.snap.now.tree w.who.now c.tree-tree.ensures.shape (path_at w.snap.now.tree w.start.0) c.args.task c.requires.given).within

pub follows-goes_on-requires : goal.follows-goes_on-requires
follows-goes_on-requires g c =
    let w = c.args.self.now in
    (place_open w.snap.now.tree w.who.now c.tree-tree.ensures.shape (path_at w.snap.now.tree w.start.0) c.args.task c.requires.given).within

pub add_rows-requires-clause-room : goal.add_rows-requires-clause-room
add_rows-requires-clause-room g c =
    let h = c.in_ok-make_ready.ensures.rows _ c.requires.stood.1.0 in
    omega (arith, g.met.Y.Yield.counted _ _ h.2, h.3, c.in_ok-make_ready.ensures.room, c.most_rows-rows.ensures.rows)

pub add_rows-requires-clause-rows : goal.add_rows-requires-clause-rows
add_rows-requires-clause-rows g c = let h = c.in_ok-make_ready.ensures.rows _ c.requires.stood.1.0 in (h.0, h.2)

pub returns-clause-piece : goal.returns-clause-piece
returns-clause-piece g c = λ ran are.
    let w = c.args.self.now in
    let tree = w.snap.now.tree in
    let takes_all : Components → Bool = is_whole (g.S.Skip.skips w.skip.now) (g.S.Skip.deepest w.skip.now) w.above tree w.who.now w.grain in
    let met : Row → Bool = meets (g.P.Pred.sat w.pred.now) w.above in
    let rows_of : ℕ → List Row = task_rows takes_all tree w.who.now w.snap.now.limit met in
    let dirs : List Components = task_dirs takes_all tree w.who.now w.snap.now.limit (path_at tree c.args.task) in
    let last = c.make_ready.new.self.last in
    let n : ℕ = c.most_rows-rows.result in
    let next : Chunk _ = record { first = last.first; end = last.end; most = last.most + n; unsettled = last.unsettled; rows = c.add_rows.new.out } in
    let few : length (rows_of c.args.task) ≤ n = omega (arith, filtered_fewer met (flat_map (shown_piece tree w.who.now w.snap.now.limit) dirs), shown_as_many tree w.who.now w.snap.now.limit dirs, c.most_rows-rows.ensures.rows) in
    let sf = g.Y.Yield.stands_for in (
      subst (Hold sf (next ∷ c.make_ready.new.self.ended.items)) (sym (rows_more rows_of ran c.args.task))
          (hold_more sf last next c.make_ready.new.self.ended.items (flat_map rows_of ran) (rows_of c.args.task) n c.in_ok-add_rows.ensures.rows few refl (c.in_ok-make_ready.ensures.rows (flat_map rows_of ran) are.0)),
      c.in_ok-add_rows.ensures.tester ∙ ap g.P.Tester.Tester.meets c.in_ok-make_ready.ensures.tester ∙ are.1,
    )

pub reach-requires-clause-above : goal.reach-requires-clause-above
reach-requires-clause-above g c =
    let w = c.args.self.now in
    omega (arith, w.above_is, place_deep w.snap.now.tree w.who.now c.tree-tree.ensures.shape (path_at w.snap.now.tree w.start.0) c.args.task c.requires.given)

pub reach-requires-clause-id : goal.reach-requires-clause-id
reach-requires-clause-id g c =
    let w = c.args.self.now in
    (place_open w.snap.now.tree w.who.now c.tree-tree.ensures.shape (path_at w.snap.now.tree w.start.0) c.args.task c.requires.given).within
