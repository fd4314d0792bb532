use Rattle.std.proofs.Common.{arith}
use Rattle.gufi_stats.proofs.Joined.{run-there}
use Rattle.gufi_stats.proofs.sums.NumberSums.into_sums.Goals as goal

pub join_sum-requires-clause-room : goal.join_sum-requires-clause-room
join_sum-requires-clause-room c =
    let run = c.in-Some.run' in
    let there = run-there c.self.inside.sums.entries c.self.inside.last run c.args.self c.in-Some.is c.self.view_is in
    let room = c.requires run.number in
    omega (arith, there, room)
