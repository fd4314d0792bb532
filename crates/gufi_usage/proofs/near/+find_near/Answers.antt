use Rattle.std.proofs.Common.{rules, ◌≡◌, ℕ, ◌-◌, ◌<◌, ◌≤◌, true, List, ◌++◌, map, length, get_or, sym, ap, ◌∙◌, subst, arith}
use Rattle.std.proofs.lemmas.List.{append-nil}
use Rattle.gufi_base.specs.declared.record.Row.{Row}
use Rattle.gufi_tree.specs.Tree.{Directory}
use Rattle.gufi_tree.specs.Places.{path_at}
use Rattle.gufi_tree.specs.declared.tree.DirId.{DirId}
use Rattle.gufi_tree.proofs.Kids.{at_place}
use Rattle.gufi_walk.specs.Walk.{meets, open_ids, lists_at}
use Rattle.gufi_usage.specs.declared.near.DirUsage.{DirUsage}
use Rattle.gufi_usage.specs.Near.{met_from, usage_at, near}
use Rattle.gufi_usage.specs.Usages.{IsUsage}
use Rattle.gufi_usage.proofs.Descents.{kid_at, near_room, near_more, near_all, found_more, found_own}
use Rattle.gufi_usage.proofs.near.+find_near.Goals as goal

abbrev nowhere : DirId
nowhere = record { 0 = 0 }

pub loop-kid-init : goal.loop-kid-init
loop-kid-init g t c = record {
  same = c.own_usage.ensures.same;
  found = sym (append-nil c.args.found.now.items);
  usage = λ d. subst (IsUsage c.in_ok-usage-2.usage) (sym (append-nil _)) (c.in_ok-usage-2.ensures.usage d);
}

pub find_near-requires : goal.find_near-requires
find_near-requires g t c =
    let tree = c.args.snap.now.tree in
    let who = c.args.who.now in
    let ids : List DirId = c.deref-kid-items.result.now in
    let same : ids ≡ open_ids tree who (path_at tree c.args.id.0) = c.deref-kid-items.ensures.value ∙ c.in_ok-kids.ensures in
    let kid = kid_at tree who c.tree-tree.ensures.shape c.args.id.0 c.requires.id c.requires.listed (λ row. true) ids same c.loop-kid.kid-index nowhere c.loop-kid-test.true in
    let smaller : c.args.levels - 1 < t = omega (arith, c.decreases, c.if-levels-eq0.false) in
    let within : (get_or ids c.loop-kid.kid-index nowhere).0 < length tree = kid.within in
    let listed : lists_at tree who (path_at tree (get_or ids c.loop-kid.kid-index nowhere).0) ≡ true = kid.listed in
    let deeper : c.args.above ≤ length (path_at tree (get_or ids c.loop-kid.kid-index nowhere).0) = omega (arith, kid.deeper, c.requires.above) in
    let query : (row : Row) (depth : ℕ) → g.T.Tester.meets c.loop-kid.tester row depth ≡ true → g.S.Skip.query c.args.skip.now row depth ≡ true =
    λ row depth h. c.requires.query row depth (ap (λ m. m row depth) (sym c.loop-kid.invariant.same) ∙ h) in
    search rules

pub join-requires-clause-room : goal.join-requires-clause-room
join-requires-clause-room g t c =
    let tree = c.args.snap.now.tree in
    let who = c.args.who.now in
    let ids : List DirId = c.deref-kid-items.result.now in
    let same : ids ≡ open_ids tree who (path_at tree c.args.id.0) = c.deref-kid-items.ensures.value ∙ c.in_ok-kids.ensures in
    let d : Directory = (at_place tree c.args.id.0 c.requires.id).0 in
    near_room tree who c.tree-tree.ensures.shape c.args.id.0 c.requires.id c.requires.listed (meets (g.T.Tester.meets c.args.tester.now) c.args.above) ids same
    c.loop-kid.kid-index nowhere d c.loop-kid.usage c.in_ok-below.below c.loop-kid-test.true c.tree-tree.ensures.few (c.loop-kid.invariant.usage d)
    (subst (λ m. IsUsage c.in_ok-below.below (met_from tree who (meets m c.args.above) (path_at tree (get_or ids c.loop-kid.kid-index nowhere).0))) c.loop-kid.invariant.same c.in_ok-below.ensures.usage)

pub join-requires-clause-in_range : goal.join-requires-clause-in_range
join-requires-clause-in_range g t c = (c.loop-kid.invariant.usage (at_place c.args.snap.now.tree c.args.id.0 c.requires.id).0).in_range

pub loop-kid-preserved : goal.loop-kid-preserved
loop-kid-preserved g t c =
    let tree = c.args.snap.now.tree in
    let who = c.args.who.now in
    let ids : List DirId = c.deref-kid-items.result.now in
    let same : ids ≡ open_ids tree who (path_at tree c.args.id.0) = c.deref-kid-items.ensures.value ∙ c.in_ok-kids.ensures in
    let sat = g.T.Tester.meets c.args.tester.now in
    let met : Row → _ = meets sat c.args.above in
    let inv = c.loop-kid.invariant in
    let kid : DirId = get_or ids c.loop-kid.kid-index nowhere in
    record {
      same = c.in_ok-below.ensures.same ∙ inv.same;
      found = found_more (usage_at tree who met) (near tree who (c.args.levels - 1)) ids c.loop-kid.kid-index nowhere c.args.found.now.items c.loop-kid.found.items c.find_near.new.found.items c.loop-kid-test.true inv.found
          (subst (λ m. c.find_near.new.found.items ≡ c.loop-kid.found.items ++ map (usage_at tree who (meets m c.args.above)) (near tree who (c.args.levels - 1) kid)) inv.same c.in_ok-below.ensures.found);
      usage = λ d. near_more tree who c.tree-tree.ensures.shape c.args.id.0 c.requires.id c.requires.listed met ids same c.loop-kid.kid-index nowhere d c.loop-kid.usage c.in_ok-below.below c.join.new.self c.loop-kid-test.true (inv.usage d)
          (subst (λ m. IsUsage c.in_ok-below.below (met_from tree who (meets m c.args.above) (path_at tree kid.0))) inv.same c.in_ok-below.ensures.usage) c.join.ensures.usage c.join.ensures.in_range;
    }

pub returns-clause-usage : goal.returns-clause-usage
returns-clause-usage g t c =
    let tree = c.args.snap.now.tree in
    let ids : List DirId = c.deref-kid-items.result.now in
    let same : ids ≡ open_ids tree c.args.who.now (path_at tree c.args.id.0) = c.deref-kid-items.ensures.value ∙ c.in_ok-kids.ensures in
    let d : Directory = (at_place tree c.args.id.0 c.requires.id).0 in
    near_all tree c.args.who.now c.tree-tree.ensures.shape c.args.id.0 c.requires.id c.requires.listed (meets (g.T.Tester.meets c.args.tester.now) c.args.above) ids same
    d c.loop-kid.usage c.loop-kid.kid-index c.loop-kid-test.false (c.loop-kid.invariant.usage d)

pub returns-clause-found : goal.returns-clause-found
returns-clause-found g t c =
    let tree = c.args.snap.now.tree in
    let who = c.args.who.now in
    let ids : List DirId = c.deref-kid-items.result.now in
    let same : ids ≡ open_ids tree who (path_at tree c.args.id.0) = c.deref-kid-items.ensures.value ∙ c.in_ok-kids.ensures in
    let met : Row → _ = meets (g.T.Tester.meets c.args.tester.now) c.args.above in
    let d : Directory = (at_place tree c.args.id.0 c.requires.id).0 in
    let all = near_all tree who c.tree-tree.ensures.shape c.args.id.0 c.requires.id c.requires.listed met ids same d c.loop-kid.usage c.loop-kid.kid-index c.loop-kid-test.false (c.loop-kid.invariant.usage d) in
    let own : DirUsage = record { id = c.args.id; usage = c.loop-kid.usage } in
    let is : own ≡ usage_at tree who met c.args.id = λ i. record { id = c.args.id; usage = all.is i } in
    found_own tree who (usage_at tree who met) c.args.levels c.args.id ids c.loop-kid.kid-index c.args.found.now.items c.loop-kid.found.items c.push-2.new.self.items own c.if-levels-eq0.false same c.loop-kid-test.false c.loop-kid.invariant.found c.in_ok-push-2.ensures.items is

pub returns-clause-same : goal.returns-clause-same
returns-clause-same g t c = c.loop-kid.invariant.same
