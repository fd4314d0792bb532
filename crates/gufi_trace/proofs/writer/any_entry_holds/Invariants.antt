use Rattle.std.proofs.Common.{◌≡◌, false, take}
use Rattle.std.specs.List.{list_any}
use Rattle.gufi_trace.proofs.Checks.{entry_holds}
use Rattle.gufi_trace.proofs.writer.any_entry_holds.Given as goal

abbrev pub invariant-loop-place : goal.invariant-loop-place
invariant-loop-place l = list_any (entry_holds l.delim) (take l.place l.entries) ≡ false
