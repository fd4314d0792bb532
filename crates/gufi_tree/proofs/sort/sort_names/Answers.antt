use Rattle.std.proofs.Common.{rules, is_lt}
use Rattle.std.proofs.lemmas.Cmp.{nat_list_cmp_total}
use Rattle.std.proofs.lemmas.List.Sorted.{ranks_by, answers_always}
use Rattle.gufi_tree.specs.declared.tree.Entry.{Entry}
use Rattle.gufi_tree.specs.Tree.{entry_cmp}
use Rattle.gufi_tree.proofs.sort.sort_names.Goals as goal

pub returns-clause-order : goal.returns-clause-order
returns-clause-order c =
    c.sort_unstable_by.ensures.sorted (λ (x y : Entry). is_lt (entry_cmp x y)) (ranks_by nat_list_cmp_total (λ (e : Entry). e.name)) (answers_always _ _ _ (λ f a r g q. search rules))
