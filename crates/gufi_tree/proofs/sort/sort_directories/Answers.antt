use Rattle.std.proofs.Common.{rules, is_lt}
use Rattle.std.proofs.lemmas.List.Sorted.{ranks_by, answers_always}
use Rattle.gufi_base.specs.Paths.{path_cmp}
use Rattle.gufi_tree.specs.declared.tree.Stored.{Stored}
use Rattle.gufi_tree.proofs.Built.{path_cmp-total}
use Rattle.gufi_tree.proofs.sort.sort_directories.Goals as goal

pub returns-clause-order : goal.returns-clause-order
returns-clause-order c =
    c.sort_unstable_by.ensures.sorted (λ (x y : Stored). is_lt (path_cmp x.path y.path)) (ranks_by path_cmp-total (λ (s : Stored). s.path)) (answers_always _ _ _ (λ f a r g q. search rules))
