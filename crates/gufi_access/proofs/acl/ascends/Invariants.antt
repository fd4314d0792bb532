use Rattle.std.proofs.Common.{◌≡◌, None}
use Rattle.gufi_access.specs.Acl.{entries, entries_left}
use Rattle.gufi_access.specs.Acl.{ascends_after}
use Rattle.gufi_access.proofs.acl.ascends.Given as goal

abbrev pub invariant-loop-entry : goal.invariant-loop-entry
invariant-loop-entry l = ascends_after None (entries l.acl) ≡ ascends_after l.last (entries_left l.entry-iterator)
