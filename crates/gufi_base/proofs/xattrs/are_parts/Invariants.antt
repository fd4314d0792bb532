use Rattle.std.proofs.Common.{◌≡◌}
use Rattle.std.specs.List.{list_all}
use Rattle.gufi_base.specs.Basics.{split}
use Rattle.gufi_base.specs.Xattrs.{is_xattr}
use Rattle.gufi_base.proofs.xattrs.are_parts.Given as goal

abbrev pub invariant-parts : goal.invariant-parts
invariant-parts l = list_all is_xattr (split 44 l.fn.names) ≡ list_all is_xattr l.part-iterator
