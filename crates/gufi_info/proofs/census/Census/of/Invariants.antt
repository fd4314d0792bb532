use Rattle.std.proofs.Common.{◌≡◌, take}
use Rattle.std.specs.List.{flat_map}
use Rattle.gufi_tree.specs.Tree.{own_rows}
use Rattle.gufi_info.specs.Census.{census_of}
use Rattle.gufi_info.proofs.census.Census.of.Given as goal

abbrev pub invariant-loop-number : goal.invariant-loop-number
invariant-loop-number l = l.census ≡ census_of (flat_map own_rows (take l.number l.tree))
