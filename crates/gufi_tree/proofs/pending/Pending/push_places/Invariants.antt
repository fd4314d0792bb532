use Rattle.std.proofs.Common.{◌≡◌, ◌++◌, map, take}
use Rattle.gufi_tree.specs.declared.pending.PlacedRow.{PlacedRow}
use Rattle.gufi_tree.proofs.pending.Pending.push_places.Given as goal

abbrev pub invariant-loop-row : goal.invariant-loop-row
invariant-loop-row l = l.places.items ≡ l.fn.places.items ++ map (λ (r : PlacedRow). r.place) (take l.row-index l.row-items)
