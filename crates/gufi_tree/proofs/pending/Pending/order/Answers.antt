use Rattle.std.proofs.lemmas.List.Sorted.{All-permutation, IsPermutation-map}
use Rattle.gufi_tree.specs.Packs.{placed_in, IsPlaced}
use Rattle.gufi_tree.proofs.pending.Pending.order.Goals as goal

pub invariant_of-self : goal.invariant_of-self
invariant_of-self c = All-permutation (IsPlaced c.self.inside.text.items) _ _ c.order_names.ensures.order c.self.invariant

pub returns-clause-order : goal.returns-clause-order
returns-clause-order c = rw (← c.self.view_is) (IsPermutation-map (placed_in c.self.inside.text.items) _ _ c.order_names.ensures.order)
