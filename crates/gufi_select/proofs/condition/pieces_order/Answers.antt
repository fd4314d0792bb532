use Rattle.std.proofs.Common.{◌∙◌, sym, refl}
use Rattle.gufi_select.proofs.PartLemmas.{order_of_pieces}
use Rattle.gufi_select.proofs.condition.pieces_order.Goals as goal

pub returns-in-Equal : goal.returns-in-Equal
returns-in-Equal c = order_of_pieces _ _ _ _ _ _ _ c.split_at.ensures.front c.split_at.ensures.back (sym c.in-Equal.is ∙ c.cmp-2.ensures) c.cmp-in-Equal.ensures

pub returns-in-Less : goal.returns-in-Less
returns-in-Less c = order_of_pieces _ _ _ _ _ _ _ c.split_at.ensures.front c.split_at.ensures.back (sym c.in-Less.is ∙ c.cmp-2.ensures) refl

pub returns-in-Greater : goal.returns-in-Greater
returns-in-Greater c = order_of_pieces _ _ _ _ _ _ _ c.split_at.ensures.front c.split_at.ensures.back (sym c.in-Greater.is ∙ c.cmp-2.ensures) refl
