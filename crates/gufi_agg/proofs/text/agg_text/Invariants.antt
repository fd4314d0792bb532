use Rattle.std.proofs.Common.{◌≡◌, take}
use Rattle.std.specs.List.{flat_map}
use Rattle.std.specs.Option.{option_copied}
use Rattle.gufi_agg.specs.Texts.{group_line}
use Rattle.gufi_agg.proofs.text.agg_text.Given as goal

abbrev pub invariant-groups : goal.invariant-groups
invariant-groups l = l.text.items ≡ flat_map (group_line (option_copied l.names) l.agg l.above) (take l.group-index l.groups)
