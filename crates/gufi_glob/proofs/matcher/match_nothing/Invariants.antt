use Rattle.std.proofs.Common.{◌≡◌, [], length}
use Rattle.gufi_glob.specs.KeptParts.{parts_of}
use Rattle.gufi_glob.specs.Patterns.{matches}
use Rattle.gufi_glob.proofs.matcher.match_nothing.Given as goal

abbrev pub invariant-parts : goal.invariant-parts
invariant-parts l = matches (parts_of l.parts) [] ≡ matches (parts_of l.rest) []

abbrev pub decreases-parts : goal.decreases-parts
decreases-parts l = length l.rest
