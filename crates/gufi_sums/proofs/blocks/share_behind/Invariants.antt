use Rattle.std.proofs.Common.{◌≡◌, ◌++◌, map, take}
use Rattle.std.specs.Arc.{arc_value}
use Rattle.gufi_sums.proofs.blocks.share_behind.Given as goal

abbrev pub invariant-loop-block : goal.invariant-loop-block
invariant-loop-block l = map arc_value l.blocks.items ≡ map arc_value l.fn.blocks.items ++ map arc_value (take l.block-index l.more)
