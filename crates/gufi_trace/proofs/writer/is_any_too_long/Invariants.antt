use Rattle.std.proofs.Common.{◌≡◌, false, take}
use Rattle.std.specs.List.{list_any}
use Rattle.gufi_trace.specs.Writing.{own_too_long}
use Rattle.gufi_trace.proofs.writer.is_any_too_long.Given as goal

abbrev pub invariant-loop-number : goal.invariant-loop-number
invariant-loop-number l = list_any (own_too_long l.root) (take l.number l.tree) ≡ false
