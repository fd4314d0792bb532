use Rattle.std.proofs.Common.{◌≡◌, length}
use Rattle.gufi_io.specs.Held.{names_differ}
use Rattle.gufi_io.proofs.memory.names_differ.Given as goal

abbrev pub invariant-names : goal.invariant-names
invariant-names l = names_differ l.files ≡ names_differ l.rest

abbrev pub decreases-names : goal.decreases-names
decreases-names l = length l.rest
