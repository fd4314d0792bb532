use Rattle.std.proofs.Common.{◌≡◌}
use Rattle.gufi_access.specs.Acl.{entries_left}
use Rattle.gufi_access.specs.Tried.{named_by}
use Rattle.gufi_access.proofs.listing.next_with_tag.Given as goal

abbrev pub invariant-loop-entry : goal.invariant-loop-entry
invariant-loop-entry l = named_by l.fn.tag l.fn.masked (entries_left l.fn.rest) ≡ named_by l.tag l.masked (entries_left l.rest)
