use Rattle.std.proofs.Common.{◌≡◌, length}
use Rattle.gufi_glob.specs.Patterns.{has_class}
use Rattle.gufi_glob.proofs.bracket.has_class.Given as goal

abbrev pub invariant-bytes : goal.invariant-bytes
invariant-bytes l = has_class l.bytes ≡ has_class l.rest

abbrev pub decreases-bytes : goal.decreases-bytes
decreases-bytes l = length l.rest
