use Rattle.std.proofs.Common.{ap, sym, subst, ◌∙◌}
use Rattle.std.specs.Ordering.{nat_cmp}
use Rattle.std.specs.BTreeMap.{insert_entry}
use Rattle.gufi_sums.specs.Total.{join}
use Rattle.gufi_stats.specs.Joined.{joined, AreBounded}
use Rattle.gufi_stats.proofs.Joined.{sum-bounded, bounded-put}
use Rattle.gufi_stats.proofs.sums.join_sum.Goals as goal

pub join-requires-clause-in_bounds : goal.join-requires-clause-in_bounds
join-requires-clause-in_bounds c = rw c.sum_at-sum.ensures (sum-bounded c.args.sums.now.entries c.args.number c.requires.in_bounds)

pub returns-clause-joined : goal.returns-clause-joined
unfolding joined
returns-clause-joined c =
    c.in_ok-insert.ensures.entries
    ∙ ap (insert_entry nat_cmp c.args.sums.now.entries c.args.number) (c.join.ensures.sum ∙ ap (λ s. join s c.args.more.now) c.sum_at-sum.ensures)

pub returns-clause-bounded : goal.returns-clause-bounded
returns-clause-bounded c =
    subst AreBounded (sym c.in_ok-insert.ensures.entries) (bounded-put c.args.sums.now.entries c.args.number c.join.new.self c.requires.in_bounds c.join.ensures.bounded)
