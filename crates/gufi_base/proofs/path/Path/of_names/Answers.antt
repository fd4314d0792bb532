use Rattle.gufi_base.proofs.PlainTexts.{IsText-plain, names-plain}
use Rattle.gufi_base.proofs.path.Path.of_names.Goals as goal

pub invariant_of-result : goal.invariant_of-result
invariant_of-result c = IsText-plain c.args.bytes.now c.in_ok-text.text.items c.requires c.in_ok-text.ensures

pub returns : goal.returns
returns c = names-plain c.args.bytes.now c.in_ok-text.text.items c.requires c.in_ok-text.ensures
