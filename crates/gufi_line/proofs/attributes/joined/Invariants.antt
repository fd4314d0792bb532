use Rattle.std.proofs.Common.{◌≡◌, []}
use Rattle.gufi_base.specs.Basics.{split}
use Rattle.gufi_line.proofs.AttributeNames.{all_added}
use Rattle.gufi_line.proofs.attributes.joined.Given as goal

abbrev pub invariant-parts : goal.invariant-parts
invariant-parts l = all_added [] (split 44 l.fn.names) ≡ all_added l.out.items l.part-iterator
