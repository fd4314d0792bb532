use Rattle.std.proofs.Common.{◌≡◌, length, map}
use Rattle.std.specs.Arc.{arc_value}
use Rattle.gufi_tree.specs.Bundled.{AreTaken}
use Rattle.gufi_tree.proofs.outside.take_over.Given as goal

abbrev pub invariant-loop-number : goal.invariant-loop-number
invariant-loop-number l = record { len : length l.numbers.items ≡ l.number; taken : AreTaken l.numbers.items (map arc_value l.bundles) (map arc_value l.taken.items) }
