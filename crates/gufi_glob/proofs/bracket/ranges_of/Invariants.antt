use Rattle.std.proofs.Common.{◌≡◌, ◌++◌, length}
use Rattle.gufi_glob.specs.Patterns.{members}
use Rattle.gufi_glob.proofs.bracket.ranges_of.Given as goal

abbrev pub invariant-members : goal.invariant-members
invariant-members l = members 0 l.members ≡ l.ranges.items ++ members 0 l.rest

abbrev pub decreases-members : goal.decreases-members
decreases-members l = length l.rest
