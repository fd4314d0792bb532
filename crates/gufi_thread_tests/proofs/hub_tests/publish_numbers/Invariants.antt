use Rattle.gufi_hub.specs.Hub.{IsReady}
use Rattle.gufi_thread_tests.proofs.hub_tests.publish_numbers.Given as goal

abbrev pub invariant-loop-n : goal.invariant-loop-n
invariant-loop-n g l = IsReady l.publisher
