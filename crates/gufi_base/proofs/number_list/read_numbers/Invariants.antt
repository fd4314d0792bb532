use Rattle.std.proofs.Common.{◌≡◌, ◌++◌, List, ℕ}
use Rattle.std.specs.Prelude.{option_map}
use Rattle.gufi_base.specs.Numbers.{all_numbers}
use Rattle.gufi_base.specs.Basics.{split}
use Rattle.gufi_base.proofs.number_list.read_numbers.Given as goal

abbrev pub invariant-numbers : goal.invariant-numbers
invariant-numbers l = all_numbers (split 44 l.fn.bytes) ≡ option_map (λ (rest : List ℕ). l.numbers.items ++ rest) (all_numbers l.piece-iterator)
