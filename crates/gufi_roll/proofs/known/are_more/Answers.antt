use Rattle.std.proofs.Common.{◌∙◌, sym, arith}
use Rattle.gufi_roll.proofs.Counted.{ends, no_parent, parent_tells}
use Rattle.gufi_roll.proofs.known.are_more.Goals as goal

pub returns-then-dirs-id : goal.returns-then-dirs-id
returns-then-dirs-id c = ends c.args.tree.now c.dirs.ensures.shape c.args.id.0 c.requires.within c.args.seen (omega arith)

pub returns-in-None : goal.returns-in-None
returns-in-None c =
    no_parent c.args.tree.now c.dirs.ensures.shape c.args.id.0 c.requires.within c.args.seen _ c.requires.some (omega arith) (sym c.parent.ensures ∙ c.in-None.is)

pub returns-in-Some : goal.returns-in-Some
returns-in-Some c =
    parent_tells c.args.tree.now c.dirs.ensures.shape c.args.id.0 c.requires.within c.args.seen c.in-Some.parent c.requires.some c.requires.seen (omega arith) (sym c.parent.ensures ∙ c.in-Some.is)
