use Rattle.std.proofs.Common.{◌≡◌, [], ◌∷◌, sym, subst}
use Rattle.std.proofs.lemmas.List.Sorted.{IsPermutation-append_comm}
use Rattle.gufi_walk.specs.declared.chunk.Chunk.{Chunk}
use Rattle.gufi_walk.specs.Chunks.{Hold}
use Rattle.gufi_walk.proofs.Joins.{hold_moved, hold_none, hold_settled}
use Rattle.gufi_walk.proofs.piece.WalkPiece.begin_chunk.Goals as goal

pub returns-clause-rows : goal.returns-clause-rows
returns-clause-rows g c = λ rows h.
    let sf = g.Y.Yield.stands_for in
    let old = c.args.self.now in
    let ended = c.settle.new.self in
    let was : c.replace-chunk.result ≡ old.last = c.replace-chunk.ensures.value in
    let settled = hold_settled sf c.replace-chunk.result ended old.ended.items rows c.in_ok-settle.ensures.rows c.in_ok-settle.ensures.most
    (subst (λ (last : Chunk _). Hold sf (last ∷ old.ended.items) rows) (sym was) h) in
    hold_none sf c.replace-chunk.new.dest c.push.new.self.items rows
    (subst (λ (d : Chunk _). sf d.rows []) (sym c.replace-chunk.ensures.after) c.in_ok-next.ensures.rows)
    (subst (λ chunks. Hold sf chunks rows) (sym c.in_ok-push.ensures.items)
    (hold_moved sf (ended ∷ old.ended.items) _ (IsPermutation-append_comm (ended ∷ []) old.ended.items) rows settled))
