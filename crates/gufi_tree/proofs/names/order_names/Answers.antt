use Rattle.std.proofs.lemmas.List.Sorted.{IsPermutation-trans}
use Rattle.gufi_tree.proofs.names.order_names.Goals as goal

pub returns-clause-order : goal.returns-clause-order
returns-clause-order c = IsPermutation-trans _ _ _ c.move_likely.ensures c.sort_unstable_by.ensures.permutation
