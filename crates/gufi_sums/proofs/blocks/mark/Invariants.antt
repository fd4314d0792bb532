use Rattle.std.proofs.Common.{◌≡◌, take, length, All}
use Rattle.gufi_sums.specs.Blocks.{AreMarked}
use Rattle.gufi_sums.proofs.blocks.mark.Given as goal

abbrev pub invariant-loop-both : goal.invariant-loop-both
invariant-loop-both l = record {
  len : length l.marks.items ≡ length l.fn.marks.items;
  marked : All (AreMarked l.marks.items) (take l.both-index l.slots);
}
