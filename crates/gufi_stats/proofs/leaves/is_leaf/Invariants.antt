use Rattle.std.proofs.Common.{◌≡◌, false, take}
use Rattle.gufi_stats.specs.Leaves.{is_above_any}
use Rattle.gufi_stats.proofs.leaves.is_leaf.Given as goal

abbrev pub invariant-loop-row : goal.invariant-loop-row
invariant-loop-row l = is_above_any l.directory (take l.row-index l.behind) ≡ false
