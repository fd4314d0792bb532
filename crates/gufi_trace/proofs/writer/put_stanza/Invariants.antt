use Rattle.std.proofs.Common.{◌≡◌, ◌++◌, take}
use Rattle.gufi_trace.specs.Writing.{directory, own_text}
use Rattle.gufi_trace.proofs.writer.put_stanza.Given as goal

abbrev pub invariant-loop-place : goal.invariant-loop-place
invariant-loop-place l = l.out.items ≡ l.fn.out.items ++ own_text l.delim l.root (directory l.path l.rec (take l.place l.entries))
