use Rattle.std.proofs.Common.{arith}
use Rattle.gufi_sums.specs.Total.{meta_total}
use Rattle.gufi_stats.proofs.Joined.{run-there, run-longer}
use Rattle.gufi_stats.proofs.sums.NumberSums.add.Goals as goal

pub add-requires-clause-room : goal.add-requires-clause-room
add-requires-clause-room c =
    let run = c.in-Some.run' in
    let there = run-there c.self.inside.sums.entries c.self.inside.last run c.args.self.now c.in-Some.is c.self.view_is in
    let room = c.requires run.number in
    omega (arith, there, room)

pub returns-then-run-number : goal.returns-then-run-number
returns-then-run-number c =
    run-longer c.self.inside.sums.entries c.self.inside.last c.in-Some.run' c.args.self.now c.args.number c.add.new.self (meta_total c.args.meta.now) c.in-Some.is c.self.view_is c.if-run-number.true c.add.ensures.sum
