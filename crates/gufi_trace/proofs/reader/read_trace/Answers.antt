use Rattle.std.proofs.Common.{[]}
use Rattle.std.proofs.lemmas.Result.{err_from_is_err_and}
use Rattle.gufi_trace.proofs.Feeds.{failed_at}
use Rattle.gufi_trace.proofs.reader.read_trace.Goals as goal
use Rattle.std.proofs.Common.{◌∙◌}

pub returns-in_err-feed-clause-lines : goal.returns-in_err-feed-clause-lines
returns-in_err-feed-clause-lines c =
    let p = err_from_is_err_and c.from_residual-in_err-feed.result c.from_residual-in_err-feed.ensures.1 in
    let read = c.in_err-feed.ensures.read [] c.in_ok-reader.ensures.read in
    rw (p.1, p.2) (failed_at c.feed.new.self c.args.delim c.in_err-feed.field-0.0 c.args.bytes.now (c.in_err-feed.ensures.delim ∙ c.in_ok-reader.ensures.delim) c.in_err-feed.ensures.answer read)
