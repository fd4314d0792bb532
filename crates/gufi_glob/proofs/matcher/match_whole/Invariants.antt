use Rattle.std.proofs.Common.{◌≡◌, length}
use Rattle.gufi_glob.specs.Joined.{joined}
use Rattle.gufi_glob.specs.KeptParts.{parts_of}
use Rattle.gufi_glob.specs.Patterns.{matches}
use Rattle.gufi_glob.proofs.matcher.match_whole.Given as goal

abbrev pub invariant-parts : goal.invariant-parts
invariant-parts l = matches (parts_of l.parts) (joined l.text) ≡ matches (parts_of l.wanted) (joined l.left)

abbrev pub decreases-parts : goal.decreases-parts
decreases-parts l = length l.wanted
