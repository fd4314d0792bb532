use Rattle.std.proofs.Common.{arith}
use Rattle.gufi_stats.proofs.Joined.{sum-most}
use Rattle.gufi_stats.proofs.sums.NumberSums.lines.Goals as goal

pub into_sums-requires : goal.into_sums-requires
into_sums-requires c = λ n.
    let most = sum-most c.args.self n in
    omega (arith, most, c.requires)
