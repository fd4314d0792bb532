use Rattle.gufi_trace.proofs.TraceBack.{trace_reads_back}
use Rattle.gufi_trace.proofs.writer.written_traces_read_back.Goals as goal

pub returns : goal.returns
returns c = trace_reads_back
