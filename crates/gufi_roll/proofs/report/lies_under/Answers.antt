use Rattle.std.proofs.Common.{sym, ◌∙◌}
use Rattle.gufi_roll.proofs.Tops.{under_none, under_some}
use Rattle.gufi_roll.proofs.report.lies_under.Goals as goal

pub returns-in-None : goal.returns-in-None
returns-in-None c = λ d.
    under_none c.args.tree.now c.dirs-count.ensures.shape c.args.flags.now c.requires.flags c.args.id.0 d c.requires.within (sym c.parent.ensures ∙ c.in-None.is)

pub returns-in-Some : goal.returns-in-Some
returns-in-Some c = λ d.
    under_some c.args.tree.now c.dirs-count.ensures.shape c.args.flags.now c.requires.flags c.args.id.0 d c.requires.within c.in-Some.parent (sym c.parent.ensures ∙ c.in-Some.is)
