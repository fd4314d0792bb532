use Rattle.std.proofs.Common.{rules, is_lt}
use Rattle.std.specs.Ordering.{nat_cmp}
use Rattle.std.proofs.lemmas.Cmp.{nat_cmp_total}
use Rattle.std.proofs.lemmas.List.Sorted.{ranks_by, answers_always}
use Rattle.gufi_usage.specs.declared.near.DirUsage.{DirUsage}
use Rattle.gufi_usage.proofs.lines.sort_by_place.Goals as goal

pub returns-clause-order : goal.returns-clause-order
returns-clause-order c =
    c.sort_unstable_by.ensures.sorted (λ (x y : DirUsage). is_lt (nat_cmp x.id.0 y.id.0)) (ranks_by nat_cmp_total (λ (d : DirUsage). d.id.0)) (answers_always _ _ _ (λ f a r g q. search rules))
