use Rattle.std.proofs.Common.{◌≡◌, ◌∙◌, [], sym, ap, subst, arith}
use Rattle.std.specs.Prelude.{false}
use Rattle.std.proofs.lemmas.Bool.{not-true}
use Rattle.std.proofs.lemmas.List.Sorted.{IsPermutation-trans, IsPermutation-sym, length_permutation}
use Rattle.gufi_base.specs.Paths.{Components}
use Rattle.gufi_base.specs.Rows.{home}
use Rattle.gufi_base.proofs.Permutations.{IsPermutation-filter}
use Rattle.gufi_tree.specs.Tree.{all_rows}
use Rattle.gufi_tree.specs.Listed.{is_listed}
use Rattle.gufi_tree.specs.Places.{path_at}
use Rattle.gufi_walk.specs.Walk.{lies_within, meets}
use Rattle.gufi_walk.proofs.Passed.{IsTest, test_of_query}
use Rattle.gufi_walk.proofs.Walked.{IsOpenTop-at, shown_at_top, listed_at_top, filtered_fewer}
use Rattle.gufi_usage.specs.Usages.{IsUsage}
use Rattle.gufi_usage.specs.Laws.{IsUsage-reordered}
use Rattle.gufi_usage.proofs.Descents.{IsUsage-none, far_none, listed-from}
use Rattle.gufi_usage.proofs.near.usage_below.Goals as goal

pub returns-then-lies_too_deep-clause-usage : goal.returns-then-lies_too_deep-clause-usage
returns-then-lies_too_deep-clause-usage g c =
    let snap = c.args.snap.now in
    let skip = c.args.skip.now in
    let skips = g.S.Skip.skips skip in
    let deepest = g.S.Skip.deepest skip in
    let sat = g.T.Tester.meets c.args.tester.now in
    let test : IsTest skips deepest sat = test_of_query skips deepest (g.S.Skip.query skip) sat (g.S.Skip.bounded skip) (g.S.Skip.parts skip) (g.S.Skip.sound skip) c.requires.query in
    let far : lies_within deepest c.args.above (path_at snap.tree c.args.id.0) ≡ false = not-true _ (sym c.lies_too_deep.ensures ∙ c.if-lies_too_deep.true) in
    subst (IsUsage c.nothing-usage.result) (sym (far_none snap.tree c.args.who.now c.tree-tree.ensures.shape c.args.id.0 c.requires.id c.requires.listed skips deepest c.args.above sat test far))
    (IsUsage-none _ c.nothing-usage.ensures.usage c.nothing-usage.ensures.in_range)

pub add_rows_below-requires-clause-room : goal.add_rows_below-requires-clause-room
add_rows_below-requires-clause-room g c =
    let snap = c.args.snap.now in
    let path : Components = path_at snap.tree c.args.id.0 in
    let top = IsOpenTop-at snap.tree c.args.who.now c.tree-tree.ensures.shape c.args.id.0 c.requires.id c.requires.listed in
    omega (
      arith,
      ap (λ u. u.rows) c.nothing-usage.ensures.usage,
      length_permutation _ _ (listed_at_top snap.tree c.args.who.now c.tree-tree.ensures.shape snap.limit path top),
      filtered_fewer (λ row. is_listed snap.tree c.args.who.now path (home row)) (all_rows snap.tree),
      c.tree-tree.ensures.few,
    )

pub add_rows_below-requires-clause-rows : goal.add_rows_below-requires-clause-rows
add_rows_below-requires-clause-rows g c = ([], IsUsage-none _ c.nothing-usage.ensures.usage c.nothing-usage.ensures.in_range)

pub returns-clause-usage : goal.returns-clause-usage
returns-clause-usage g c =
    let snap = c.args.snap.now in
    let path : Components = path_at snap.tree c.args.id.0 in
    let met = meets (g.T.Tester.meets c.args.tester.now) c.args.above in
    let top = IsOpenTop-at snap.tree c.args.who.now c.tree-tree.ensures.shape c.args.id.0 c.requires.id c.requires.listed in
    IsUsage-reordered c.add_rows_below.new.out _ _
    (IsPermutation-filter met _ _ (IsPermutation-trans _ _ _ (IsPermutation-sym _ _ (shown_at_top snap.tree c.args.who.now c.tree-tree.ensures.shape snap.limit path top)) (listed-from snap.tree c.args.who.now c.tree-tree.ensures.shape path)))
    (c.in_ok-add_rows_below.ensures.rows [] (IsUsage-none _ c.nothing-usage.ensures.usage c.nothing-usage.ensures.in_range))
