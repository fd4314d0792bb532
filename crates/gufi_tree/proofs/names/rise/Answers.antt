use Rattle.std.proofs.Common.{◌≡◌, ◌∙◌, Bool, sym, subst, rules, is_lt}
use Rattle.std.specs.List.{IsAllAdjacentAnswer}
use Rattle.std.specs.declared.cmp.Ordering.{Ordering}
use Rattle.std.proofs.lemmas.Fn.{always_returns_same}
use Rattle.gufi_tree.specs.declared.pending.PlacedRow.{PlacedRow}
use Rattle.gufi_tree.specs.Bundles.{entry_in}
use Rattle.gufi_tree.specs.Tree.{entry_cmp}
use Rattle.gufi_tree.proofs.Shaped.{ascends_adjacent}
use Rattle.gufi_tree.proofs.Waiting.{ascends_placed}
use Rattle.gufi_tree.proofs.names.rise.Goals as goal

pub returns : goal.returns
returns c = λ t.
    let text = c.args.text.now in
    let by : PlacedRow → PlacedRow → Ordering = λ x y. entry_cmp (entry_in text x.packed) (entry_in text y.packed) in
    let P : Bool → Type 0 = λ r. IsAllAdjacentAnswer (λ (x y : PlacedRow) b. b ≡ is_lt (by x y)) c.args.rows.now r in
    let each = subst P t (c.is_sorted_by.ensures.cases (λ (x y : PlacedRow). is_lt (by x y)) (always_returns_same _ _ _ (λ a r g q. search rules))) in
    sym (ascends_placed text c.args.rows.now) ∙ (ascends_adjacent by c.args.rows.now (λ k d lt. sym (each k d lt)))
