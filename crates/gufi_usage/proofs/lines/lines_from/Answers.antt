use Rattle.std.proofs.Common.{◌≡◌, ◌∙◌, ◌<◌, List, length, map, sym, ap, subst, arith}
use Rattle.std.specs.Prelude.{All}
use Rattle.std.specs.List.{flat_map}
use Rattle.std.specs.List.Sorted.{IsPermutation}
use Rattle.std.proofs.lemmas.List.Elements.{All-from_recursion}
use Rattle.std.proofs.lemmas.Result.{IfOk-weaker}
use Rattle.gufi_base.specs.Paths.{Components}
use Rattle.gufi_tree.specs.Tree.{Directory}
use Rattle.gufi_tree.specs.Places.{path_at}
use Rattle.gufi_walk.specs.Walk.{meets}
use Rattle.gufi_walk.proofs.Walked.{depth_at-place}
use Rattle.gufi_usage.specs.declared.near.DirUsage.{DirUsage}
use Rattle.gufi_usage.specs.Near.{usage_at, near, line_of}
use Rattle.gufi_usage.proofs.Found.{found-as, found-in_tree, found-lines}
use Rattle.gufi_usage.proofs.lines.lines_from.Goals as goal

pub overflow_cast-above : goal.overflow_cast-above
overflow_cast-above g c =
    let same : c.path.result ≡ path_at c.args.snap.now.tree c.args.start.0 = c.path.ensures ∙ ap (λ (ds : List Directory). path_at ds c.args.start.0) c.tree-tree.ensures.tree in
    omega (arith, c.depth-above.ensures, ap length same, depth_at-place c.args.snap.now.tree c.tree-tree.ensures.shape c.args.start.0 c.requires.start)

pub find_near-requires-clause-above : goal.find_near-requires-clause-above
find_near-requires-clause-above g c =
    let same : c.path.result ≡ path_at c.args.snap.now.tree c.args.start.0 = c.path.ensures ∙ ap (λ (ds : List Directory). path_at ds c.args.start.0) c.tree-tree.ensures.tree in
    omega (arith, c.depth-above.ensures, ap length same)

pub lines_of-requires : goal.lines_of-requires
lines_of-requires g c =
    let tree = c.args.snap.now.tree in
    let who = c.args.who.now in
    let sat = g.P.Pred.sat c.args.pred.now in
    let start : Components = path_at tree c.args.start.0 in
    let deep : c.depth-above.result ≡ length start = c.depth-above.ensures ∙ ap length (c.path.ensures ∙ ap (λ (ds : List Directory). path_at ds c.args.start.0) c.tree-tree.ensures.tree) in
    let found : c.find_near.new.found.items ≡ map (usage_at tree who (meets sat (length start))) (near tree who c.args.depth c.args.start) =
    found-as tree who sat _ c.args.start c.args.depth c.depth-above.result c.new-found.result.items c.find_near.new.found.items c.new-found.ensures.items c.in_ok-tester.ensures deep c.in_ok-find_near.ensures.found in
    let moved = subst (λ l. IsPermutation l c.sort_by_place.new.found.items) found c.sort_by_place.ensures.permutation in
    let all : All (λ (d : DirUsage). d.id.0 < length tree) c.sort_by_place.new.found.items = All-from_recursion _ _ (found-in_tree tree who c.tree-tree.ensures.shape c.args.start c.requires.start c.requires.listed c.args.depth sat c.sort_by_place.new.found.items moved) in
    subst (λ (ds : List Directory). All (λ (d : DirUsage). d.id.0 < length ds) c.as_slice.result.now) (sym c.tree-tree.ensures.tree)
    (subst (All (λ (d : DirUsage). d.id.0 < length tree)) (sym c.as_slice.ensures.value) all)

pub returns : goal.returns
returns g c =
    let tree = c.args.snap.now.tree in
    let who = c.args.who.now in
    let sat = g.P.Pred.sat c.args.pred.now in
    let start : Components = path_at tree c.args.start.0 in
    let deep : c.depth-above.result ≡ length start = c.depth-above.ensures ∙ ap length (c.path.ensures ∙ ap (λ (ds : List Directory). path_at ds c.args.start.0) c.tree-tree.ensures.tree) in
    let found : c.find_near.new.found.items ≡ map (usage_at tree who (meets sat (length start))) (near tree who c.args.depth c.args.start) =
    found-as tree who sat _ c.args.start c.args.depth c.depth-above.result c.new-found.result.items c.find_near.new.found.items c.new-found.ensures.items c.in_ok-tester.ensures deep c.in_ok-find_near.ensures.found in
    let moved = subst (λ l. IsPermutation l c.sort_by_place.new.found.items) found c.sort_by_place.ensures.permutation in
    IfOk-weaker c.lines_of.result _ _
    (λ text e. e ∙ ap (λ (ds : List Directory). flat_map (line_of ds) c.as_slice.result.now) c.tree-tree.ensures.tree ∙ ap (flat_map (line_of tree)) c.as_slice.ensures.value
    ∙ found-lines tree who c.tree-tree.ensures.shape c.args.start c.requires.start c.requires.listed c.args.depth sat c.sort_by_place.new.found.items moved c.sort_by_place.ensures.order)
    c.lines_of.ensures
