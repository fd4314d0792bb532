use Rattle.std.proofs.Common.{◌≡◌, ◌++◌, take}
use Rattle.gufi_trace.specs.TraceWriting.{trace_text}
use Rattle.gufi_trace.proofs.writer.put_tree.Given as goal

abbrev pub invariant-loop-number : goal.invariant-loop-number
invariant-loop-number l = l.out.items ≡ l.fn.out.items ++ trace_text (take l.number l.tree) l.root l.delim
