use Rattle.gufi_walk.proofs.Walked.{start_place, found_listed}
use Rattle.gufi_walk.proofs.start.found_start.Goals as goal

pub returns-in-Found-clause-within : goal.returns-in-Found-clause-within
returns-in-Found-clause-within c = (start_place c.args.snap.now.tree _ c.args.who.now c.args.start.now c.in-Found.id c.tree.ensures.shape c.tree.ensures.tree c.in-Found.ensures).within

pub returns-in-Found-clause-path : goal.returns-in-Found-clause-path
returns-in-Found-clause-path c = (start_place c.args.snap.now.tree _ c.args.who.now c.args.start.now c.in-Found.id c.tree.ensures.shape c.tree.ensures.tree c.in-Found.ensures).path

pub returns-in-Found-clause-listed : goal.returns-in-Found-clause-listed
returns-in-Found-clause-listed c =
    found_listed c.args.snap.now.tree c.args.who.now c.tree.ensures.shape c.args.start.now c.in-Found.id
    (start_place c.args.snap.now.tree _ c.args.who.now c.args.start.now c.in-Found.id c.tree.ensures.shape c.tree.ensures.tree c.in-Found.ensures)
