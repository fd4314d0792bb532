use Rattle.std.proofs.Common.{sym, ◌∙◌, arith}
use Rattle.std.proofs.lemmas.List.Sorted.{IsPermutation-trans, length_permutation}
use Rattle.gufi_base.specs.Basics.{ascends}
use Rattle.gufi_tree.specs.Tree.{Directory, entry_cmp, is_kinded}
use Rattle.gufi_tree.proofs.Placed.{list_all-IsPermutation}
use Rattle.gufi_tree.proofs.shape.move_to_order.Goals as goal

pub tree_parents-requires-clause-few : goal.tree_parents-requires-clause-few
tree_parents-requires-clause-few c = let n = length_permutation _ _ c.order_likely.ensures in let few = c.requires.few in omega arith

pub tree_parents-requires-clause-kinds : goal.tree_parents-requires-clause-kinds
tree_parents-requires-clause-kinds c = sym (list_all-IsPermutation is_kinded _ _ c.order_likely.ensures) ∙ c.requires.kinds

pub tree_parents-requires-clause-distinct : goal.tree_parents-requires-clause-distinct
tree_parents-requires-clause-distinct c = sym (list_all-IsPermutation (λ (d : Directory). ascends entry_cmp d.entries) _ _ c.order_likely.ensures) ∙ c.requires.distinct

pub tree_parents-requires-2-clause-few : goal.tree_parents-requires-2-clause-few
tree_parents-requires-2-clause-few c =
    let moved = IsPermutation-trans _ _ _ c.order_likely.ensures c.sort.ensures in
    let n = length_permutation _ _ moved in let few = c.requires.few in omega arith

pub tree_parents-requires-2-clause-kinds : goal.tree_parents-requires-2-clause-kinds
tree_parents-requires-2-clause-kinds c = sym (list_all-IsPermutation is_kinded _ _ (IsPermutation-trans _ _ _ c.order_likely.ensures c.sort.ensures)) ∙ c.requires.kinds

pub tree_parents-requires-2-clause-distinct : goal.tree_parents-requires-2-clause-distinct
tree_parents-requires-2-clause-distinct c =
    sym (list_all-IsPermutation (λ (d : Directory). ascends entry_cmp d.entries) _ _ (IsPermutation-trans _ _ _ c.order_likely.ensures c.sort.ensures)) ∙ c.requires.distinct

pub returns-clause-permutation : goal.returns-clause-permutation
returns-clause-permutation c = IsPermutation-trans _ _ _ c.order_likely.ensures c.sort.ensures
