use Rattle.std.proofs.Common.{◌≡◌, false, take}
use Rattle.std.specs.List.{list_any}
use Rattle.gufi_trace.proofs.Checks.{entry_over}
use Rattle.gufi_trace.proofs.writer.any_entry_is_over.Given as goal

abbrev pub invariant-loop-place : goal.invariant-loop-place
invariant-loop-place l = list_any (entry_over l.names l.bytes) (take l.place l.entries) ≡ false
