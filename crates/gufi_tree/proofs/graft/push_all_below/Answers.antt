use Rattle.std.proofs.Common.{arith}
use Rattle.gufi_tree.proofs.Joined.{next_below}
use Rattle.gufi_tree.proofs.graft.push_all_below.Goals as goal

pub loop-place-preserved : goal.loop-place-preserved
loop-place-preserved c =
    let l = c.loop-place in
    next_below c.args.path.now c.args.dirs.now l.dirs c.push_below.new.dirs c.args.part.now l.place c.at.result (omega arith) (c.at.ensures c.at.result) l.invariant c.in_ok-push_below.ensures
