use Rattle.std.proofs.Common.{ap, ◌∙◌, sym}
use Rattle.gufi_base.specs.Basics.{is_empty}
use Rattle.gufi_base.specs.Paths.{Components}
use Rattle.gufi_image.proofs.Written.{no_parent}
use Rattle.gufi_image.proofs.writer.parent_number.Goals as goal

pub returns-in-None : goal.returns-in-None
returns-in-None c =
    no_parent c.args.tree.now c.args.id.0 c.requires.shape
    (ap (λ (p : Components). is_empty p) (sym c.path.ensures) ∙ sym c.is_root.ensures.value ∙ c.if-is_root.false)
    (sym c.parent.ensures ∙ c.in-None.is)
