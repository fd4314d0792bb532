use Rattle.std.proofs.Common.{◌++◌, take, get_or}
use Rattle.std.specs.List.{flat_map}
use Rattle.gufi_tree.specs.Tree.{Directory, own_rows}
use Rattle.gufi_tree.specs.Places.{path_at}
use Rattle.gufi_tree.proofs.Kids.{rows_under}
use Rattle.gufi_sums.specs.Total.{IsTotal}
use Rattle.gufi_snap.proofs.sums.sum_under.Given as goal

abbrev pub invariant-loop-kid : goal.invariant-loop-kid
invariant-loop-kid l = (d : Directory) → IsTotal l.sum (own_rows (get_or l.tree l.fn.id.0 d) ++ flat_map (λ id. rows_under l.tree (path_at l.tree id.0)) (take l.kid-index l.kid-items))
