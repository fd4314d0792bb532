use Rattle.std.proofs.Common.{◌≡◌, ◌≤◌, List, length, take, drop, sym, ap, ◌∙◌, subst, arith}
use Rattle.std.specs.Prelude.{All}
use Rattle.gufi_tree.specs.Tree.{Directory, HasTreeShape}
use Rattle.gufi_tree.specs.Places.{path_at}
use Rattle.gufi_tree.proofs.Below.{below_dirs}
use Rattle.gufi_tree.proofs.Ranges.{below_range, below_within}
use Rattle.gufi_snap.proofs.Ranges.{below_deep}
use Rattle.gufi_snap.proofs.contents.Contents.stores_below.Goals as goal

pub range-requires : goal.range-requires
range-requires c =
    let tree = c.args.self.now in
    let shape : HasTreeShape tree = subst HasTreeShape c.self.view_is c.self.invariant.shape in
    omega (arith, ap length c.self.view_is, c.dirs_below-count.ensures, below_within tree c.args.id.0 shape.order c.requires)

pub returns-clause-dirs : goal.returns-clause-dirs
returns-clause-dirs c =
    let tree = c.args.self.now in
    let shape : HasTreeShape tree = subst HasTreeShape c.self.view_is c.self.invariant.shape in
    c.range.ensures ∙ ap (λ (ds : List Directory). take c.dirs_below-count.result (drop c.args.id.0 ds)) c.self.view_is
    ∙ ap (λ n. take n (drop c.args.id.0 tree)) c.dirs_below-count.ensures ∙ sym (below_range tree c.args.id.0 shape.order c.requires)

pub returns-clause-deep : goal.returns-clause-deep
returns-clause-deep c =
    let tree = c.args.self.now in
    let shape : HasTreeShape tree = subst HasTreeShape c.self.view_is c.self.invariant.shape in
    let path = path_at tree c.args.id.0 in
    let below : c.range.result ≡ below_dirs tree path =
    c.range.ensures ∙ ap (λ (ds : List Directory). take c.dirs_below-count.result (drop c.args.id.0 ds)) c.self.view_is
    ∙ ap (λ n. take n (drop c.args.id.0 tree)) c.dirs_below-count.ensures ∙ sym (below_range tree c.args.id.0 shape.order c.requires) in
    subst (All (λ (dir : Directory). length path ≤ length dir.path)) (sym below) (below_deep path tree)
