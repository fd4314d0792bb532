use Rattle.std.proofs.lemmas.List.{map-append}
use Rattle.std.proofs.lemmas.Result.{err_from_is_err_and}
use Rattle.gufi_glob.proofs.Reading.{reads_on, reads_stops, reads_done}
use Rattle.gufi_glob.proofs.reader.read_parts.Goals as goal

pub returns-in_err-front : goal.returns-in_err-front
returns-in_err-front c =
    let p = err_from_is_err_and c.from_residual.result c.from_residual.ensures.1 in
    rw (p.1, p.2) (λ other. reads_stops c.in-Some.ensures (c.in_err-front.ensures.value other) c.bytes.invariant.reads)

pub bytes-preserved : goal.bytes-preserved
bytes-preserved c =
    let step = reads_on c.in-Some.ensures c.in_ok-front.ensures.value c.bytes.invariant.reads in
    record {
      reads = rw (c.in_ok-push.ensures.items, map-append, c.split_at.ensures.back) step;
      unclosed = rw c.split_at.ensures.back c.in_ok-front.ensures.unclosed;
    }

pub returns : goal.returns
returns c = reads_done c.in_default.ensures c.bytes.invariant.reads
