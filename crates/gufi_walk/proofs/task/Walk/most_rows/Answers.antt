use Rattle.std.proofs.Common.{◌<◌, ◌^◌, List, length, subst, arith}
use Rattle.std.specs.List.{flat_map}
use Rattle.gufi_base.specs.Paths.{Components}
use Rattle.gufi_tree.specs.Places.{path_at}
use Rattle.gufi_tree.specs.Tree.{Directory, own_rows}
use Rattle.gufi_walk.specs.Walk.{is_whole}
use Rattle.gufi_walk.proofs.Tasks.{place_open, place_listed, task_few}
use Rattle.gufi_walk.proofs.Walked.{IsOpenTop-at}
use Rattle.gufi_walk.proofs.task.Walk.most_rows.Goals as goal

pub returns-clause-rows : goal.returns-clause-rows
returns-clause-rows g c =
    let w = c.args.self.now in
    let tree = w.snap.now.tree in
    let shape = c.tree.ensures.shape in
    let path : Components = path_at tree c.args.id.0 in
    let within = (place_open tree w.who.now shape (path_at tree w.start.0) c.args.id.0 c.requires.given).within in
    let top = IsOpenTop-at tree w.who.now shape c.args.id.0 within (place_listed tree w.who.now shape (path_at tree w.start.0) c.args.id.0 c.requires.given) in
    let few : length (flat_map own_rows tree) < 2 ^ 32 = subst (λ (ds : List Directory). length (flat_map own_rows ds) < 2 ^ 32) c.tree.ensures.tree c.dirs-count.ensures.rows in
    omega (arith, few, task_few tree w.who.now shape w.snap.now.limit path top (is_whole (g.S.Skip.skips w.skip.now) (g.S.Skip.deepest w.skip.now) w.above tree w.who.now w.grain path))
