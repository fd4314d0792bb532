use Rattle.std.proofs.lemmas.Result.{on_ok_weaker}
use Rattle.gufi_tree.proofs.Paired.{rows_pushed}
use Rattle.gufi_tree.proofs.rows.PackedRows.push_rows.Goals as goal

pub returns-clause-some : goal.returns-clause-some
returns-clause-some c =
    let some = c.push_parts.ensures.some in
    (some.0, rows_pushed _ _ _ c.self.view_is c.self.invariant _ _ c.args.base _ some.1 some.2)

pub returns-clause-all : goal.returns-clause-all
returns-clause-all c = on_ok_weaker c.push_parts.result (λ all. rows_pushed _ _ _ c.self.view_is c.self.invariant _ _ c.args.base _ all.0 all.1) c.push_parts.ensures.all
