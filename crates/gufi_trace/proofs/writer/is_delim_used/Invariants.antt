use Rattle.std.proofs.Common.{◌≡◌, false, take}
use Rattle.std.specs.List.{list_any}
use Rattle.gufi_trace.specs.Writing.{own_holds}
use Rattle.gufi_trace.proofs.writer.is_delim_used.Given as goal

abbrev pub invariant-loop-number : goal.invariant-loop-number
invariant-loop-number l = list_any (own_holds l.delim) (take l.number l.tree) ≡ false
