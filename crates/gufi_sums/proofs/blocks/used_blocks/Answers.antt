use Rattle.std.proofs.Common.{map, subst, sym}
use Rattle.std.specs.Arc.{arc_value}
use Rattle.std.proofs.lemmas.List.{length-map}
use Rattle.std.proofs.lemmas.Result.{IfOk-weaker}
use Rattle.gufi_sums.specs.Blocks.{AreKept}
use Rattle.gufi_sums.proofs.Slots.{used_sums, used_stand}
use Rattle.gufi_sums.proofs.blocks.used_blocks.Goals as goal

pub returns-clause-sums : goal.returns-clause-sums
returns-clause-sums c =
    IfOk-weaker c.marked_blocks.result _ _ (λ used e.
    used_sums (map arc_value c.args.blocks.now) (map arc_value used.items) c.as_slice.result.now c.args.last.now
    (subst (AreKept (map arc_value c.args.blocks.now) c.as_slice.result.now (map arc_value used.items)) (sym (length-map c.args.blocks.now arc_value)) e)
    c.args.slots.now c.requires (rw c.as_slice.ensures.value c.mark.ensures.marked)) c.marked_blocks.ensures

pub returns-clause-stand : goal.returns-clause-stand
returns-clause-stand c =
    IfOk-weaker c.marked_blocks.result _ _ (λ used e.
    used_stand (map arc_value c.args.blocks.now) (map arc_value used.items) c.as_slice.result.now c.args.last.now
    (subst (AreKept (map arc_value c.args.blocks.now) c.as_slice.result.now (map arc_value used.items)) (sym (length-map c.args.blocks.now arc_value)) e)
    c.args.slots.now c.requires (rw c.as_slice.ensures.value c.mark.ensures.marked)) c.marked_blocks.ensures
