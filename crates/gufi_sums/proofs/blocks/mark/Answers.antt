use Rattle.std.proofs.Common.{◌∙◌}
use Rattle.gufi_sums.specs.declared.blocks.Slots.{Slots}
use Rattle.gufi_sums.proofs.Slots.{marked_more}
use Rattle.gufi_sums.proofs.blocks.mark.Goals as goal

abbrev nowhere : Slots
nowhere = record { own = record { block = 0; at = 0 }; below = record { block = 0; at = 0 } }

pub loop-both-preserved : goal.loop-both-preserved
loop-both-preserved c = record {
  len = c.mark_block-in-loop-both.ensures.len ∙ c.mark_block.ensures.len ∙ c.loop-both.invariant.len;
  marked = marked_more c.loop-both.marks.items _ _ c.args.slots.now c.loop-both.both-index nowhere c.loop-both-test.true c.loop-both.invariant.marked c.mark_block.ensures.others c.mark_block-in-loop-both.ensures.others c.mark_block.ensures.marked c.mark_block-in-loop-both.ensures.marked;
}
