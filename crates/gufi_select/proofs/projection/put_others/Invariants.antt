use Rattle.std.proofs.Common.{◌≡◌, ◌++◌, take}
use Rattle.std.specs.List.{flat_map}
use Rattle.gufi_select.specs.Lines.{tabbed_text}
use Rattle.gufi_select.specs.Parts.{seen_parts}
use Rattle.gufi_select.proofs.projection.put_others.Given as goal

abbrev pub invariant-columns : goal.invariant-columns
invariant-columns l = l.out.items ≡ l.initial.out.items ++ flat_map (tabbed_text (seen_parts l.row l.depth)) (take l.column-index l.columns)
