use Rattle.std.proofs.Common.{◌≡◌, Bool, true, false, List, ◌++◌, map, cond, sym, ap, ◌∙◌, subst}
use Rattle.std.specs.Prelude.{filter}
use Rattle.gufi_base.specs.declared.record.Row.{Row}
use Rattle.gufi_tree.specs.Tree.{Directory, home_rows, subtree_rows}
use Rattle.gufi_tree.specs.Places.{path_at}
use Rattle.gufi_store.specs.Scan.{is_met}
use Rattle.gufi_roll.specs.CanRoll.{can_roll}
use Rattle.gufi_snap.specs.Snap.{Snap}
use Rattle.gufi_snap.proofs.Pieces.{on_ok}
use Rattle.gufi_snap.proofs.snapshot.Snapshot.scan_piece.Goals as goal

pub returns-then-rolled-clause-rows : goal.returns-then-rolled-clause-rows
returns-then-rolled-clause-rows g c =
    let tree = c.args.self.now.tree in
    let k = c.args.id.0 in
    let met : Row → Bool = is_met c.args.above (g.T.Tester.meets c.args.tester.now) in
    let shows : Row → Row = g.V.View.shows c.args.view.now in
    let rolled : can_roll tree c.args.self.now.limit (path_at tree k) ≡ true = sym c.rolled.ensures ∙ c.if-rolled.true in
    let same : c.deref.result.now ≡ tree = c.deref.ensures ∙ ap (λ (s : Snap). s.tree) c.self.view_is in
    on_ok c.scan_below.result _ _
    (λ given rows stands.
    subst (λ b. g.Y.Yield.stands_for c.scan_below.new.out (rows ++ filter met (map shows (cond b (subtree_rows tree (path_at tree k)) (home_rows tree (path_at tree k)))))) (sym rolled)
    (subst (λ (t : List Directory). g.Y.Yield.stands_for c.scan_below.new.out (rows ++ filter met (map shows (subtree_rows t (path_at t k))))) same (given rows stands)))
    c.scan_below.ensures.rows

pub returns-clause-rows : goal.returns-clause-rows
returns-clause-rows g c =
    let tree = c.args.self.now.tree in
    let k = c.args.id.0 in
    let met : Row → Bool = is_met c.args.above (g.T.Tester.meets c.args.tester.now) in
    let shows : Row → Row = g.V.View.shows c.args.view.now in
    let rolled : can_roll tree c.args.self.now.limit (path_at tree k) ≡ false = sym c.rolled.ensures ∙ c.if-rolled.false in
    let same : c.deref-2.result.now ≡ tree = c.deref-2.ensures ∙ ap (λ (s : Snap). s.tree) c.self.view_is in
    on_ok c.scan_own.result _ _
    (λ given rows stands.
    subst (λ b. g.Y.Yield.stands_for c.scan_own.new.out (rows ++ filter met (map shows (cond b (subtree_rows tree (path_at tree k)) (home_rows tree (path_at tree k)))))) (sym rolled)
    (subst (λ (t : List Directory). g.Y.Yield.stands_for c.scan_own.new.out (rows ++ filter met (map shows (home_rows t (path_at t k))))) same (given rows stands)))
    c.scan_own.ensures.rows
