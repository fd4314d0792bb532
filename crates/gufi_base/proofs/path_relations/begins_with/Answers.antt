use Rattle.gufi_base.proofs.Below.{prefix-text, no_prefix-text}
use Rattle.gufi_base.proofs.path_relations.begins_with.Goals as goal

pub returns-in-None : goal.returns-in-None
returns-in-None c = no_prefix-text c.args.front.now c.args.text.now c.requires.front c.requires.text c.in-None.ensures

pub returns-in-Some : goal.returns-in-Some
returns-in-Some c = prefix-text c.args.front.now c.args.text.now _ c.requires.front c.requires.text c.in-Some.ensures
