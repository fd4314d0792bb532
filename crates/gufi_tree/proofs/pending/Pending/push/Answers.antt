use Rattle.std.proofs.Common.{◌∙◌}
use Rattle.std.proofs.lemmas.Result.{err_from_is_err_and}
use Rattle.gufi_tree.proofs.Waiting.{placed_in-goes_on, placed_in-push, IsPlaced-goes_on, IsPlaced-push}
use Rattle.gufi_tree.proofs.pending.Pending.push.Goals as goal

pub returns-in_err-packed-clause-unchanged : goal.returns-in_err-packed-clause-unchanged
returns-in_err-packed-clause-unchanged c =
    let p = err_from_is_err_and c.from_residual.result c.from_residual.ensures.1 in
    rw p.1 (placed_in-goes_on _ _ c.self.inside.rows.items c.pack_entry.ensures.grown c.self.invariant ∙ c.self.view_is)

pub invariant_of-self-in_err-push : goal.invariant_of-self-in_err-push
invariant_of-self-in_err-push c = rw c.in_err-push.ensures.items (IsPlaced-goes_on _ _ c.self.inside.rows.items c.pack_entry.ensures.grown c.self.invariant)

pub returns-in_err-push-clause-unchanged : goal.returns-in_err-push-clause-unchanged
returns-in_err-push-clause-unchanged c =
    let p = err_from_is_err_and c.from_residual-in_err-push.result c.from_residual-in_err-push.ensures.1 in
    rw p.1 (rw c.in_err-push.ensures.items (placed_in-goes_on _ _ c.self.inside.rows.items c.pack_entry.ensures.grown c.self.invariant ∙ c.self.view_is))

pub invariant_of-self-2 : goal.invariant_of-self-2
invariant_of-self-2 c = rw c.in_ok-push.ensures.items (IsPlaced-push _ _ c.self.inside.rows.items c.pack_entry.ensures.grown c.self.invariant _ c.in_ok-packed.ensures.packed)

pub returns-clause-pushed : goal.returns-clause-pushed
returns-clause-pushed c = rw (c.in_ok-push.ensures.items, ← c.self.view_is) (placed_in-push _ _ c.self.inside.rows.items c.pack_entry.ensures.grown c.self.invariant _ _ c.in_ok-packed.ensures.entry)
