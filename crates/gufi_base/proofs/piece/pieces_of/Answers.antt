use Rattle.std.proofs.Common.{◌∙◌}
use Rattle.gufi_base.proofs.SplitParts.{split_is}
use Rattle.gufi_base.proofs.piece.pieces_of.Goals as goal

pub returns-clause-value : goal.returns-clause-value
returns-clause-value c = c.split_str.ensures.value ∙ split_is c.args.bytes.now c.args.separator.now c.requires
