use Rattle.std.proofs.Common.{sym, subst}
use Rattle.std.proofs.lemmas.Result.{IfOk-weaker}
use Rattle.gufi_walk.specs.Chunks.{Hold}
use Rattle.gufi_walk.proofs.Joins.{hold_moved}
use Rattle.gufi_walk.proofs.chunk.rows_of_pieces.Goals as goal

pub joined-requires : goal.joined-requires
joined-requires g c =
    let holds = subst (λ chunks. Hold g.Y.Yield.stands_for chunks c.requires.0) (sym c.in_ok-chunks.ensures) c.requires.1 in
    (c.requires.0, hold_moved g.Y.Yield.stands_for _ _ c.sort_by_key.ensures.permutation c.requires.0 holds, c.requires.2)

pub returns : goal.returns
returns g c =
    IfOk-weaker c.joined.result _ _
    (λ y h rows holds.
    h rows (hold_moved g.Y.Yield.stands_for _ _ c.sort_by_key.ensures.permutation rows (subst (λ chunks. Hold g.Y.Yield.stands_for chunks rows) (sym c.in_ok-chunks.ensures) holds)))
    c.joined.ensures
