use Rattle.std.proofs.Common.{List, ℕ, ◌++◌, take, subst, ◌∙◌}
use Rattle.std.proofs.lemmas.Result.{err_from_is_err_and}
use Rattle.gufi_trace.specs.Reader.{HasRead, stream_of}
use Rattle.gufi_trace.proofs.Feeds.{failed_within}
use Rattle.gufi_trace.proofs.reader.read_pieces.Goals as goal

pub returns-in_err-feed-clause-lines : goal.returns-in_err-feed-clause-lines
returns-in_err-feed-clause-lines c =
    let p = err_from_is_err_and c.from_residual-in_err-feed.result c.from_residual-in_err-feed.ensures.1 in
    let read = c.in_err-feed.ensures.read (stream_of (take c.loop-piece.piece-index c.args.pieces.now)) c.loop-piece.invariant.read in
    let slice = c.as_slice.ensures in
    let item = c.piece-item.is in
    rw (p.1, p.2) (failed_within c.feed.new.self c.args.delim c.in_err-feed.field-0.0 c.args.pieces.now c.loop-piece.piece-index c.piece-item.result (c.in_err-feed.ensures.delim ∙ c.loop-piece.invariant.delim) c.in_err-feed.ensures.answer c.loop-piece-test.true item
    (subst (λ (x : List ℕ). HasRead c.feed.new.self (stream_of (take c.loop-piece.piece-index c.args.pieces.now) ++ x)) slice read))
