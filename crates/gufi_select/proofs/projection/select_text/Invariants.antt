use Rattle.std.proofs.Common.{◌≡◌, length, take}
use Rattle.std.specs.List.{flat_map}
use Rattle.gufi_base.specs.declared.record.Row.{Row}
use Rattle.gufi_base.specs.Rows.{depth_below}
use Rattle.gufi_select.specs.Columns.{projected}
use Rattle.gufi_select.proofs.projection.select_text.Given as goal

abbrev pub invariant-rows : goal.invariant-rows
invariant-rows l = l.text.items ≡ flat_map (λ (row : Row). projected l.select row (depth_below (length l.start) row)) (take l.row-index l.rows)
