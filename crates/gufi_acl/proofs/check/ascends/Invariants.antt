use Rattle.std.proofs.Common.{◌≡◌, None, drop}
use Rattle.gufi_access.specs.Acl.{ascends_after}
use Rattle.gufi_acl.proofs.check.ascends.Given as goal

abbrev pub invariant-entries : goal.invariant-entries
invariant-entries l = ascends_after None l.entries ≡ ascends_after l.last (drop l.entry-index l.entries)
