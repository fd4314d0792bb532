use Rattle.std.proofs.Common.{◌≡◌, ◌++◌, map, take}
use Rattle.gufi_sums.specs.Blocks.{both_moved}
use Rattle.gufi_sums.proofs.blocks.push_moved.Given as goal

abbrev pub invariant-loop-both : goal.invariant-loop-both
invariant-loop-both l = l.slots.items ≡ l.fn.slots.items ++ map (both_moved l.by) (take l.both-index l.more)
