use Rattle.std.proofs.Common.{◌-◌}
use Rattle.gufi_base.specs.Paths.{path_cmp}
use Rattle.gufi_tree.specs.Tree.{Directory}
use Rattle.gufi_tree.proofs.Halved.{IsHalved}
use Rattle.gufi_tree.proofs.search.find_path.Given as goal

abbrev pub invariant-loop-low : goal.invariant-loop-low
invariant-loop-low l = IsHalved (λ (d : Directory). path_cmp d.path l.path) l.dirs l.low l.high

abbrev pub decreases-loop-low : goal.decreases-loop-low
decreases-loop-low l = l.high - l.low
