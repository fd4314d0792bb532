use Rattle.std.proofs.Common.{sym, ap, ◌∙◌}
use Rattle.gufi_base.specs.Basics.{split}
use Rattle.gufi_line.proofs.AttributeNames.{all_added, added_all}
use Rattle.gufi_line.proofs.attributes.joined.Goals as goal

pub returns : goal.returns
returns c = c.of.ensures ∙ sym (c.parts.invariant ∙ ap (all_added c.parts.out.items) c.in-None.ensures.steps.0) ∙ added_all (split 44 c.args.names.now)
