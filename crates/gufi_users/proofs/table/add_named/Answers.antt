use Rattle.std.proofs.Common.{map, Ok, sym, ap, ◌∙◌, refl}
use Rattle.gufi_users.proofs.ReadLemmas.{new_added, old_refused}
use Rattle.gufi_users.proofs.table.add_named.Goals as goal

pub returns-then-branch-clause-ok : goal.returns-then-branch-clause-ok
returns-then-branch-clause-ok g c =
    let added = rw c.if-branch.true at c.in_ok-add_row.ensures in
    new_added g.R.FromLine.name_of g.R.FromLine.entry g.met.R.FromLine.named (c.args.name, c.args.row) c.args.rows.now.entries added.0
    ∙ ap (λ rows. Ok (map g.R.FromLine.entry rows)) (sym added.1)

pub returns-clause-err : goal.returns-clause-err
returns-clause-err g c =
    let there = rw c.if-branch.false at c.in_ok-add_row.ensures in
    λ other. rw (old_refused g.R.FromLine.name_of g.R.FromLine.entry g.met.R.FromLine.named (c.args.name, c.args.row) c.args.rows.now.entries there) refl
