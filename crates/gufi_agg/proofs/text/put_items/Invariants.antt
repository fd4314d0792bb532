use Rattle.std.proofs.Common.{◌≡◌, ◌++◌, take}
use Rattle.gufi_agg.specs.Texts.{tabbed_items}
use Rattle.gufi_agg.proofs.text.put_items.Given as goal

abbrev pub invariant-items : goal.invariant-items
invariant-items l = l.out.items ≡ l.initial.out.items ++ tabbed_items (take l.item-index l.items) l.group
