use Rattle.std.proofs.Common.{◌≤◌, map, take}
use Rattle.std.specs.Prelude.{All}
use Rattle.std.specs.Arc.{arc_value}
use Rattle.gufi_tree.specs.Bundles.{IsShort}
use Rattle.gufi_tree.proofs.dirs.longest_of.Given as goal

abbrev pub invariant-loop-bundle : goal.invariant-loop-bundle
invariant-loop-bundle l = record { least : l.fn.least ≤ l.longest; short : All (All (IsShort l.longest)) (map arc_value (take l.bundle-index l.bundles)) }
