use Rattle.std.proofs.Common.{◌≡◌, false, take, drop}
use Rattle.std.specs.List.{list_any}
use Rattle.gufi_tree.specs.Graft.{has_long_row}
use Rattle.gufi_tree.proofs.too_long.any_has_long_row.Given as goal

abbrev pub invariant-loop-place : goal.invariant-loop-place
invariant-loop-place l = list_any (has_long_row l.above) (drop l.from (take l.place l.dirs)) ≡ false
