use Rattle.std.proofs.Common.{arith}
use Rattle.gufi_stats.proofs.Joined.{sum-most}
use Rattle.gufi_stats.proofs.sums.NumberSums.join.Goals as goal

pub into_sums-requires-2 : goal.into_sums-requires-2
into_sums-requires-2 c = λ n.
    let most = sum-most c.args.other n in
    let room = c.requires n in
    omega (arith, most, room)
