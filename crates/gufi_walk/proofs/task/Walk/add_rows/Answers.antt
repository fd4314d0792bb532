use Rattle.std.proofs.Common.{◌≡◌, ◌∙◌, Bool, false, cond, List, [], ◌∷◌, ◌++◌, length, ap, sym, subst, arith}
use Rattle.std.specs.List.{flat_map}
use Rattle.std.proofs.lemmas.Bool.{and_parts}
use Rattle.std.proofs.lemmas.List.{append-nil}
use Rattle.gufi_base.specs.declared.record.Row.{Row}
use Rattle.gufi_base.specs.Paths.{Components}
use Rattle.gufi_tree.specs.Places.{path_at}
use Rattle.gufi_snap.specs.Pieces.{front, piece}
use Rattle.gufi_walk.specs.Walk.{lies_within, is_whole, task_dirs}
use Rattle.gufi_walk.proofs.Bounded.{all_too_deep, all_passed, task_too_deep, task_passed}
use Rattle.gufi_walk.proofs.Passed.{IsTest, test_of_query}
use Rattle.gufi_walk.proofs.Tasks.{place_open, place_deep, place_listed}
use Rattle.gufi_walk.proofs.task.Walk.add_rows.Goals as goal

pub lies_within-requires-clause-id : goal.lies_within-requires-clause-id
lies_within-requires-clause-id g c =
    let w = c.args.self.now in
    (place_open w.snap.now.tree w.who.now c.tree-tree.ensures.shape (path_at w.snap.now.tree w.start.0) c.args.id.0 c.requires.given).within

pub lies_within-requires-clause-above : goal.lies_within-requires-clause-above
lies_within-requires-clause-above g c =
    let w = c.args.self.now in
    omega (arith, w.above_is, place_deep w.snap.now.tree w.who.now c.tree-tree.ensures.shape (path_at w.snap.now.tree w.start.0) c.args.id.0 c.requires.given)

-- a task that lies too deep adds no row
pub returns-then-not-lies_within-clause-rows : goal.returns-then-not-lies_within-clause-rows
returns-then-not-lies_within-clause-rows g c = λ rows h.
    let w = c.args.self.now in
    let tree = w.snap.now.tree in
    let path : Components = path_at tree c.args.id.0 in
    let skip = w.skip.now in
    let skips = g.S.Skip.skips skip in
    let deepest = g.S.Skip.deepest skip in
    let sat = g.P.Pred.sat w.pred.now in
    let test : IsTest skips deepest sat = test_of_query skips deepest (g.S.Skip.query skip) sat (g.S.Skip.bounded skip) (g.S.Skip.parts skip) (g.S.Skip.sound skip) w.query in
    let deep : lies_within deepest w.above path ≡ false = sym c.lies_within.ensures ∙ c.if-not-lies_within.true in
    let takes_all : Components → Bool = is_whole skips deepest w.above tree w.who.now w.grain in
    let dirs : List Components = task_dirs takes_all tree w.who.now w.snap.now.limit path in
    let none = all_too_deep tree w.snap.now.limit w.who.now skips deepest w.above sat test dirs (task_too_deep tree w.snap.now.limit w.who.now deepest w.above takes_all path deep) in
    subst (λ more. g.Y.Yield.stands_for c.args.out.now (rows ++ more)) (sym none) (subst (g.Y.Yield.stands_for c.args.out.now) (sym (append-nil rows)) h)

pub rules_out_below-requires : goal.rules_out_below-requires
rules_out_below-requires g c =
    let w = c.args.self.now in
    (place_open w.snap.now.tree w.who.now c.tree-tree.ensures.shape (path_at w.snap.now.tree w.start.0) c.args.id.0 c.requires.given).within

-- nor does one that is ruled out
pub returns-then-rules_out_below-clause-rows : goal.returns-then-rules_out_below-clause-rows
returns-then-rules_out_below-clause-rows g c = λ rows h.
    let w = c.args.self.now in
    let tree = w.snap.now.tree in
    let path : Components = path_at tree c.args.id.0 in
    let skip = w.skip.now in
    let skips = g.S.Skip.skips skip in
    let deepest = g.S.Skip.deepest skip in
    let sat = g.P.Pred.sat w.pred.now in
    let test : IsTest skips deepest sat = test_of_query skips deepest (g.S.Skip.query skip) sat (g.S.Skip.bounded skip) (g.S.Skip.parts skip) (g.S.Skip.sound skip) w.query in
    let takes_all : Components → Bool = is_whole skips deepest w.above tree w.who.now w.grain in
    let dirs : List Components = task_dirs takes_all tree w.who.now w.snap.now.limit path in
    let passed = task_passed tree w.snap.now.limit w.who.now skips test.parts takes_all path (and_parts _ _ (sym c.rules_out_below.ensures ∙ c.if-rules_out_below.true)).1 in
    let none = all_passed tree w.snap.now.limit w.who.now skips deepest w.above sat test dirs passed in
    subst (λ more. g.Y.Yield.stands_for c.args.out.now (rows ++ more)) (sym none) (subst (g.Y.Yield.stands_for c.args.out.now) (sym (append-nil rows)) h)

pub is_whole-requires-clause-above : goal.is_whole-requires-clause-above
is_whole-requires-clause-above g c =
    let w = c.args.self.now in
    omega (arith, w.above_is, place_deep w.snap.now.tree w.who.now c.tree-tree.ensures.shape (path_at w.snap.now.tree w.start.0) c.args.id.0 c.requires.given)

pub is_whole-requires-clause-id : goal.is_whole-requires-clause-id
is_whole-requires-clause-id g c =
    let w = c.args.self.now in
    (place_open w.snap.now.tree w.who.now c.tree-tree.ensures.shape (path_at w.snap.now.tree w.start.0) c.args.id.0 c.requires.given).within

pub add_rows_below-requires-clause-start : goal.add_rows_below-requires-clause-start
add_rows_below-requires-clause-start g c =
    let w = c.args.self.now in
    (place_open w.snap.now.tree w.who.now c.tree-tree.ensures.shape (path_at w.snap.now.tree w.start.0) c.args.id.0 c.requires.given).within

pub add_rows_below-requires-clause-listed : goal.add_rows_below-requires-clause-listed
add_rows_below-requires-clause-listed g c =
    let w = c.args.self.now in
    place_listed w.snap.now.tree w.who.now c.tree-tree.ensures.shape (path_at w.snap.now.tree w.start.0) c.args.id.0 c.requires.given

pub add_rows_below-requires-clause-above : goal.add_rows_below-requires-clause-above
add_rows_below-requires-clause-above g c =
    let w = c.args.self.now in
    omega (arith, w.above_is, place_deep w.snap.now.tree w.who.now c.tree-tree.ensures.shape (path_at w.snap.now.tree w.start.0) c.args.id.0 c.requires.given)

pub visit-requires-clause-id : goal.visit-requires-clause-id
visit-requires-clause-id g c =
    let w = c.args.self.now in
    (place_open w.snap.now.tree w.who.now c.tree-tree.ensures.shape (path_at w.snap.now.tree w.start.0) c.args.id.0 c.requires.given).within

pub visit-requires-clause-above : goal.visit-requires-clause-above
visit-requires-clause-above g c =
    let w = c.args.self.now in
    omega (arith, w.above_is, place_deep w.snap.now.tree w.who.now c.tree-tree.ensures.shape (path_at w.snap.now.tree w.start.0) c.args.id.0 c.requires.given)

pub visit-requires-clause-room : goal.visit-requires-clause-room
visit-requires-clause-room g c =
    let w = c.args.self.now in
    let tree = w.snap.now.tree in
    let path : Components = path_at tree c.args.id.0 in
    let P : Components → List Row = λ p. piece tree p w.snap.now.limit in
    let small = ap (λ (b : Bool). length (flat_map P (cond b (front tree w.who.now path w.snap.now.limit) (path ∷ [])))) (sym c.is_whole.ensures ∙ c.if-is_whole.false) in
    omega (arith, c.requires.room, small, ap length (append-nil (P path)))
