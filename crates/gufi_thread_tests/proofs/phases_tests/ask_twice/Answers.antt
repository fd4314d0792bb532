use Rattle.std.proofs.Common.{arith, ◌<◌}
use Rattle.gufi_phases.specs.Loads.{total_size}
use Rattle.gufi_thread_tests.proofs.phases_tests.ask_twice.Goals as goal

pub run-requires-clause-few : goal.run-requires-clause-few
unfolding total_size
run-requires-clause-few g c κs within = let few : 3 < 1073741824 = omega arith in few
