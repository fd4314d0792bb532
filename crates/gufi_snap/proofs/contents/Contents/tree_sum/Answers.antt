use Rattle.std.proofs.Common.{◌≡◌, ℕ, ◌<◌, List, length, sym, ap, subst, arith}
use Rattle.gufi_tree.specs.Tree.{Directory, subtree_rows, HasTreeShape}
use Rattle.gufi_tree.specs.Places.{path_at}
use Rattle.gufi_tree.proofs.Kids.{rows_under}
use Rattle.gufi_sums.specs.declared.summary.Summary.{Summary}
use Rattle.gufi_sums.specs.Total.{IsTotal}
use Rattle.gufi_snap.proofs.Pieces.{subtree_total}
use Rattle.gufi_snap.proofs.contents.Contents.tree_sum.Goals as goal

-- the tree inside is the one that contracts see
subtree_inside : (tree seen : List Directory) → tree ≡ seen → (k : ℕ) (sum : Summary) → HasTreeShape tree → IsTotal sum (rows_under tree (path_at tree k)) → IsTotal sum (subtree_rows seen (path_at seen k))
subtree_inside tree seen e k sum shape h = subst (λ (t : List Directory). IsTotal sum (subtree_rows t (path_at t k))) e (subtree_total tree (path_at tree k) sum shape h)

pub below-requires : goal.below-requires
below-requires c = omega (arith, (c.self.invariant.kept c.in-Some.sums c.in-Some.is).len, ap length c.self.view_is, c.requires)

pub returns-in-Some : goal.returns-in-Some
returns-in-Some c =
    let tree = c.self.inside.tree in
    let k = c.args.id.0 in
    let sum = c.below.result.now in
    let within : k < length tree = subst (λ (t : List Directory). k < length t) (sym c.self.view_is) c.requires in
    subtree_inside tree c.args.self.now c.self.view_is k sum c.self.invariant.shape
    (subst (λ (s : Summary). IsTotal s (rows_under tree (path_at tree k))) (sym (c.below.ensures sum)) ((c.self.invariant.kept c.in-Some.sums c.in-Some.is).under k sum (omega arith) within))

pub returns-in-None : goal.returns-in-None
returns-in-None c = subtree_inside c.self.inside.tree c.args.self.now c.self.view_is c.args.id.0 c.sum_below.result c.self.invariant.shape c.sum_below.ensures
