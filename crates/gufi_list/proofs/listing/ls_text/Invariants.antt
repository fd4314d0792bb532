use Rattle.std.proofs.Common.{◌≡◌, take}
use Rattle.std.specs.List.{flat_map}
use Rattle.gufi_list.specs.Columns.{shown_line}
use Rattle.gufi_list.proofs.listing.ls_text.Given as goal

abbrev pub invariant-loop-row : goal.invariant-loop-row
invariant-loop-row l = l.text.items ≡ flat_map (shown_line l.users l.long l.all) (take l.row-index l.rows)
