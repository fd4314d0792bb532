use Rattle.std.proofs.Common.{◌≡◌, Bool, true, [], ◌++◌, ◌∙◌, List, filter, refl, subst, sym, arith, append_assoc, length-append}
use Rattle.std.specs.List.{AllByRecursion, flat_map}
use Rattle.std.proofs.lemmas.List.{append-nil}
use Rattle.std.proofs.lemmas.List.Sorted.{IsPermutation-append_right}
use Rattle.gufi_base.specs.declared.record.Row.{Row}
use Rattle.gufi_base.specs.Paths.{Components}
use Rattle.gufi_tree.specs.Places.{path_at}
use Rattle.gufi_snap.specs.Pieces.{front}
use Rattle.gufi_walk.specs.Walk.{lies_within, meets, shown_piece}
use Rattle.gufi_walk.proofs.Bounded.{walk_next, next_less, walk_left_within, ticked_all}
use Rattle.gufi_walk.proofs.Passed.{IsTest, test_of_query}
use Rattle.gufi_walk.proofs.Walked.{IsWalk, IsWalk-start, IsWalk-all, walk_last, walk_deep, walk_left, rows-more, shown_as_many, rows_of_all, filtered_fewer}
use Rattle.gufi_walk.proofs.descent.add_rows_below.Goals as goal

pub loop-id-init : goal.loop-id-init
loop-id-init g c =
    let snap = c.args.snap.now in
    let start : Components = path_at snap.tree c.args.start.0 in (
      [],
      record {
        same = refl;
        within = subst (AllByRecursion (λ id. lies_within (g.S.Skip.deepest c.args.skip.now) c.args.above (path_at snap.tree id.0) ≡ true)) (sym c.in_ok-todo.ensures) (c.requires.within, tt);
        walk = subst (IsWalk snap.tree c.args.who.now snap.limit start []) (sym c.in_ok-todo.ensures) (IsWalk-start snap.tree c.args.who.now c.tree-tree.ensures.shape snap.limit c.args.start.0 c.requires.start c.requires.listed);
        rows = λ rows h. subst (g.Y.Yield.stands_for c.args.out.now) (sym (append-nil rows)) h;
        exact = omega arith;
      },
    )

pub visit-requires-clause-id : goal.visit-requires-clause-id
visit-requires-clause-id g c =
    (walk_last c.args.snap.now.tree c.args.who.now c.tree-tree.ensures.shape c.args.snap.now.limit _ _ _ _ _ c.loop-id.invariant.1.walk c.in-Some.ensures.items).within

pub visit-requires-clause-above : goal.visit-requires-clause-above
visit-requires-clause-above g c =
    omega (arith, c.requires.above, walk_deep c.args.snap.now.tree c.args.who.now c.tree-tree.ensures.shape c.args.snap.now.limit _ _ _ _ _ c.loop-id.invariant.1.walk c.in-Some.ensures.items)

pub visit-requires-clause-room : goal.visit-requires-clause-room
visit-requires-clause-room g c =
    let snap = c.args.snap.now in
    let done : List Components = c.loop-id.invariant.0 in
    let met : Row → Bool = meets (g.T.Tester.meets c.args.tester.now) c.args.above in
    let before : List Row = c.requires.rows.0 in
    let law = g.met.Y.Yield.counted in
    omega (
      arith,
      law _ _ c.requires.rows.1,
      law _ _ (c.loop-id.invariant.1.rows before c.requires.rows.1),
      length-append before (filter met (flat_map (shown_piece snap.tree c.args.who.now snap.limit) done)),
      filtered_fewer met (flat_map (shown_piece snap.tree c.args.who.now snap.limit) done),
      shown_as_many snap.tree c.args.who.now snap.limit done,
      walk_left snap.tree c.args.who.now c.tree-tree.ensures.shape snap.limit _ _ _ _ _ c.loop-id.invariant.1.walk c.in-Some.ensures.items,
      c.requires.room,
    )

pub visit-requires-clause-rows : goal.visit-requires-clause-rows
visit-requires-clause-rows g c =
    let snap = c.args.snap.now in
    let met : Row → Bool = meets (g.T.Tester.meets c.args.tester.now) c.args.above in
    let before : List Row = c.requires.rows.0 in
    (before ++ filter met (flat_map (shown_piece snap.tree c.args.who.now snap.limit) c.loop-id.invariant.0), c.loop-id.invariant.1.rows before c.requires.rows.1)

pub push_next-requires-clause-id : goal.push_next-requires-clause-id
push_next-requires-clause-id g c =
    (walk_last c.args.snap.now.tree c.args.who.now c.tree-tree.ensures.shape c.args.snap.now.limit _ _ _ _ _ c.loop-id.invariant.1.walk c.in-Some.ensures.items).within

pub push_next-requires-clause-above : goal.push_next-requires-clause-above
push_next-requires-clause-above g c =
    omega (arith, c.requires.above, walk_deep c.args.snap.now.tree c.args.who.now c.tree-tree.ensures.shape c.args.snap.now.limit _ _ _ _ _ c.loop-id.invariant.1.walk c.in-Some.ensures.items)

pub loop-id-smaller : goal.loop-id-smaller
loop-id-smaller g c =
    let snap = c.args.snap.now in
    let inv = c.loop-id.invariant.1 in
    let skip = c.args.skip.now in
    let skips = g.S.Skip.skips skip in
    let deepest = g.S.Skip.deepest skip in
    let sat = g.T.Tester.meets c.args.tester.now in
    let test : IsTest skips deepest sat = test_of_query skips deepest (g.S.Skip.query skip) sat (g.S.Skip.bounded skip) (g.S.Skip.parts skip) (g.S.Skip.sound skip) c.requires.query in
    let next = walk_next snap.tree snap.limit c.args.who.now c.tree-tree.ensures.shape skips deepest c.args.above _ c.requires.above _ _ _ _ inv.walk c.in-Some.ensures.items inv.within sat test _ c.in_ok-push_next.ensures in
    next_less snap.tree snap.limit c.args.who.now c.tree-tree.ensures.shape skips deepest c.args.above _ c.requires.above _ _ _ _ inv.walk c.in-Some.ensures.items inv.within _ _ _ next.1

pub loop-id-preserved : goal.loop-id-preserved
loop-id-preserved g c =
    let snap = c.args.snap.now in
    let done : List Components = c.loop-id.invariant.0 in
    let inv = c.loop-id.invariant.1 in
    let path : Components = path_at snap.tree c.in-Some.id.0 in
    let sat = g.T.Tester.meets c.args.tester.now in
    let met = meets sat c.args.above in
    let old : List Row = filter met (flat_map (shown_piece snap.tree c.args.who.now snap.limit) done) in
    let skip = c.args.skip.now in
    let skips = g.S.Skip.skips skip in
    let deepest = g.S.Skip.deepest skip in
    let test : IsTest skips deepest sat = test_of_query skips deepest (g.S.Skip.query skip) sat (g.S.Skip.bounded skip) (g.S.Skip.parts skip) (g.S.Skip.sound skip) c.requires.query in
    let next = walk_next snap.tree snap.limit c.args.who.now c.tree-tree.ensures.shape skips deepest c.args.above _ c.requires.above done _ _ _ inv.walk c.in-Some.ensures.items inv.within sat test _ c.in_ok-push_next.ensures in (
      next.0,
      record {
        same = c.in_ok-passed.ensures.same ∙ inv.same;
        walk = next.1.walk;
        within = next.1.within;
        rows = λ before h. subst (λ more. g.Y.Yield.stands_for c.visit.new.out (before ++ more)) (sym (next.1.rows ∙ rows-more snap.tree c.args.who.now snap.limit met done path))
            (subst (g.Y.Yield.stands_for c.visit.new.out) (append_assoc before old (filter met (shown_piece snap.tree c.args.who.now snap.limit path))) (rw inv.same at c.in_ok-passed.ensures.rows (before ++ old) (inv.rows before h)));
        exact = omega (arith, c.in_ok-passed.ensures.exact, inv.exact, next.1.count);
      },
    )

pub returns-clause-rows : goal.returns-clause-rows
returns-clause-rows g c = λ before h.
    let snap = c.args.snap.now in
    let start : Components = path_at snap.tree c.args.start.0 in
    let met : Row → Bool = meets (g.T.Tester.meets c.args.tester.now) c.args.above in
    let shows : Components → List Row = shown_piece snap.tree c.args.who.now snap.limit in
    let done : List Components = c.loop-id.invariant.0 in
    let reached : List Components = front snap.tree c.args.who.now start snap.limit in
    let law = g.met.Y.Yield.reordered in
    let all = IsWalk-all snap.tree c.args.who.now c.tree-tree.ensures.shape snap.limit start done c.loop-id.todo.items c.loop-id.invariant.1.walk (omega (arith, c.loop-id.todo.ok.0, c.in_default.ensures.cases)) in
    law c.loop-id.out (before ++ filter met (flat_map shows done)) (before ++ filter met (flat_map shows reached))
    (IsPermutation-append_right before _ _ (rows_of_all met shows done reached all)) (c.loop-id.invariant.1.rows before h)

pub returns-clause-at_most : goal.returns-clause-at_most
returns-clause-at_most g c =
    let snap = c.args.snap.now in
    let skip = c.args.skip.now in
    let all = IsWalk-all snap.tree c.args.who.now c.tree-tree.ensures.shape snap.limit (path_at snap.tree c.args.start.0) c.loop-id.invariant.0 c.loop-id.todo.items c.loop-id.invariant.1.walk (omega (arith, c.loop-id.todo.ok.0, c.in_default.ensures.cases)) in
    omega (arith, c.loop-id.invariant.1.exact, ticked_all (g.S.Skip.skips skip) snap.tree snap.limit (g.S.Skip.deepest skip) c.args.above _ _ all)

pub returns-clause-exact : goal.returns-clause-exact
returns-clause-exact g c =
    let snap = c.args.snap.now in
    let skip = c.args.skip.now in
    let all = IsWalk-all snap.tree c.args.who.now c.tree-tree.ensures.shape snap.limit (path_at snap.tree c.args.start.0) c.loop-id.invariant.0 c.loop-id.todo.items c.loop-id.invariant.1.walk (omega (arith, c.loop-id.todo.ok.0, c.in_default.ensures.cases)) in
    omega (arith, c.loop-id.invariant.1.exact, ticked_all (g.S.Skip.skips skip) snap.tree snap.limit (g.S.Skip.deepest skip) c.args.above _ _ all)

pub returns-in_err-passed-clause-at_most : goal.returns-in_err-passed-clause-at_most
returns-in_err-passed-clause-at_most g c =
    let snap = c.args.snap.now in
    let inv = c.loop-id.invariant.1 in
    let skip = c.args.skip.now in
    let left = walk_left_within snap.tree snap.limit c.args.who.now c.tree-tree.ensures.shape (g.S.Skip.skips skip) (g.S.Skip.deepest skip) c.args.above _ c.requires.above _ _ _ _ inv.walk c.in-Some.ensures.items inv.within in
    omega (arith, inv.exact, c.visit.ensures.exact, left)

pub returns-in_err-push_next-clause-at_most : goal.returns-in_err-push_next-clause-at_most
returns-in_err-push_next-clause-at_most g c =
    let snap = c.args.snap.now in
    let inv = c.loop-id.invariant.1 in
    let skip = c.args.skip.now in
    let left = walk_left_within snap.tree snap.limit c.args.who.now c.tree-tree.ensures.shape (g.S.Skip.skips skip) (g.S.Skip.deepest skip) c.args.above _ c.requires.above _ _ _ _ inv.walk c.in-Some.ensures.items inv.within in
    omega (arith, inv.exact, c.in_ok-passed.ensures.exact, left)
