use Rattle.std.proofs.Common.{◌+◌, ◌*◌, ◌≤◌, length}
use Rattle.gufi_glob.specs.Joined.{joined}
use Rattle.gufi_glob.specs.KeptParts.{parts_of}
use Rattle.gufi_glob.proofs.Matching.{Trying}
use Rattle.gufi_glob.proofs.matcher.match_some_end.Given as goal

abbrev pub invariant-tries : goal.invariant-tries
invariant-tries l =
    record {
      trying : Trying (parts_of l.parts) (joined l.text) (parts_of l.from) (joined l.begin) (parts_of l.wanted) (joined l.left);
      tried : length l.wanted ≤ length l.from;
      fewer : length l.from ≤ length l.parts;
      shorter : length (joined l.left) ≤ length (joined l.begin);
    }

abbrev pub decreases-tries : goal.decreases-tries
decreases-tries l = length (joined l.begin) * (length l.parts + 1) + length l.wanted
