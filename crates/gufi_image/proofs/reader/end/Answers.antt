use Rattle.std.proofs.Common.{◌++◌, [], sym, ◌∙◌}
use Rattle.gufi_image.proofs.ImagePieces.{said_otherwise, trails}
use Rattle.gufi_image.proofs.reader.end.Goals as goal

pub returns-then-is_as_said-clause-halts : goal.returns-then-is_as_said-clause-halts
returns-then-is_as_said-clause-halts c = rw c.flaw.ensures (λ k more.
    trails k c.args.progress.now c.requires.read c.requires.whole c.args.rest.now.now more (sym c.is_empty.ensures ∙ c.if-is_empty.false) (sym c.is_as_said.ensures ∙ c.if-is_as_said.true))

pub returns-clause-same : goal.returns-clause-same
returns-clause-same c = λ k more.
    said_otherwise k c.args.progress.now c.requires.read c.requires.whole (c.args.rest.now.now ++ more) ([] ++ more) (sym c.is_as_said.ensures ∙ c.if-is_as_said.false)
