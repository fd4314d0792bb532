use Prim.Native.Nat.{◌+◌, ◌*◌}
use Rattle.gufi_pool.proofs.threads.+workers.Given as goal

abbrev pub decreases-run_each : goal.decreases-run_each
decreases-run_each g l = 2 * l.members.len

abbrev pub decreases-back : goal.decreases-back
decreases-back g l = 2 * l.members.len + 1
