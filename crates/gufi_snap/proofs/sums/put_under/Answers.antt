use Rattle.std.proofs.Common.{◌≡◌, [], length, sym, ◌∙◌, subst}
use Rattle.std.proofs.lemmas.Bool.{eqb-true}
use Rattle.std.proofs.lemmas.List.{nil_from_length}
use Rattle.gufi_tree.specs.Places.{path_at, child_ids}
use Rattle.gufi_snap.specs.SumsByPlace.{AreSumsFrom}
use Rattle.gufi_snap.proofs.Growing.{sums_leaf, sums_put}
use Rattle.gufi_snap.proofs.Pieces.{on_ok}
use Rattle.gufi_snap.proofs.sums.put_under.Goals as goal

pub returns-then-is_empty : goal.returns-then-is_empty
returns-then-is_empty c =
    let n = c.args.id.0 in
    let leaf : child_ids c.args.tree.now (path_at c.args.tree.now n) ≡ [] = sym c.subdirs.ensures ∙ nil_from_length c.subdirs.result.now (eqb-true (length c.subdirs.result.now) 0 (sym c.if-is_empty.ensures)) in
    sums_leaf c.args.tree.now c.args.sums.now n c.requires.shape c.requires.id leaf c.requires.sums

pub returns : goal.returns
returns c =
    let tree = c.args.tree.now in
    let n = c.args.id.0 in
    on_ok c.put_below.result _ _
    (λ is. subst (AreSumsFrom tree n) (sym is) (sums_put tree c.args.sums.now c.sum_under-sum.result n c.requires.id c.requires.sums c.sum_under-sum.ensures))
    c.put_below.ensures
