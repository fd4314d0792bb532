use Rattle.std.proofs.Common.{◌-◌, ◌++◌, length, take, get_or}
use Rattle.std.specs.List.{flat_map}
use Rattle.gufi_tree.specs.Tree.{Directory, own_rows}
use Rattle.gufi_tree.specs.Places.{path_at}
use Rattle.gufi_tree.proofs.Kids.{rows_under}
use Rattle.gufi_sums.specs.Total.{IsTotal}
use Rattle.gufi_snap.proofs.sums.+sum_below.Given as goal

abbrev pub decreases-sum_below : goal.decreases-sum_below
decreases-sum_below l = length l.tree.now - l.id.0

abbrev pub invariant-loop-kid : goal.invariant-loop-kid
invariant-loop-kid l = (d : Directory) → IsTotal l.sum (own_rows (get_or l.tree l.fn.id.0 d) ++ flat_map (λ id. rows_under l.tree (path_at l.tree id.0)) (take l.kid-index l.kid-items))
