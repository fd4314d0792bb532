use Rattle.std.proofs.Common.{◌≡◌}
use Rattle.std.specs.List.{list_any}
use Rattle.gufi_base.specs.Basics.{split}
use Rattle.gufi_line.specs.AttributeField.{is_long}
use Rattle.gufi_line.proofs.attributes.has_long.Given as goal

abbrev pub invariant-parts : goal.invariant-parts
invariant-parts l = list_any is_long (split 44 l.fn.names) ≡ list_any is_long l.part-iterator
