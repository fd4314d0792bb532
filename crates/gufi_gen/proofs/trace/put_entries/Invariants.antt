use Rattle.std.proofs.Common.{◌≡◌, ◌++◌}
use Rattle.gufi_gen.specs.Lines.{entry_lines}
use Rattle.gufi_gen.proofs.trace.put_entries.Given as goal

abbrev pub invariant-loop-place : goal.invariant-loop-place
invariant-loop-place l = l.out.items ≡ l.fn.out.items ++ entry_lines l.delim l.number l.place
