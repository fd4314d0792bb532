use Rattle.gufi_thread_tests.proofs.Heaps.{heap_shape}
use Rattle.gufi_thread_tests.proofs.pool_tests.runs_once.Goals as goal

pub run_pool-requires-clause-shape : goal.run_pool-requires-clause-shape
run_pool-requires-clause-shape g c κs within = heap_shape c.args.size c.requires.some
