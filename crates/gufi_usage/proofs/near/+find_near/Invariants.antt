use Rattle.std.proofs.Common.{◌≡◌, ◌-◌, ◌++◌, map, take, get_or}
use Rattle.std.specs.Prelude.{filter}
use Rattle.std.specs.List.{flat_map}
use Rattle.gufi_tree.specs.Tree.{Directory, own_rows}
use Rattle.gufi_tree.specs.Places.{path_at}
use Rattle.gufi_walk.specs.Answer.{shown}
use Rattle.gufi_walk.specs.Walk.{meets}
use Rattle.gufi_usage.specs.Near.{met_from, usage_at, near}
use Rattle.gufi_usage.specs.Usages.{IsUsage}
use Rattle.gufi_usage.proofs.near.+find_near.Given as goal

abbrev pub decreases-find_near : goal.decreases-find_near
decreases-find_near g l = l.levels

abbrev pub invariant-loop-kid : goal.invariant-loop-kid
invariant-loop-kid g l = record {
  same : g.T.Tester.meets l.tester ≡ g.T.Tester.meets l.fn.tester;
  found : l.found.items ≡ l.fn.found.items ++ map (usage_at l.snap.tree l.who (meets (g.T.Tester.meets l.fn.tester) l.above)) (flat_map (near l.snap.tree l.who (l.levels - 1)) (take l.kid-index l.kid-items));
  usage : (d : Directory) → IsUsage l.usage (filter (meets (g.T.Tester.meets l.fn.tester) l.above) (map (shown l.who) (own_rows (get_or l.snap.tree l.id.0 d)))
      ++ flat_map (λ id. met_from l.snap.tree l.who (meets (g.T.Tester.meets l.fn.tester) l.above) (path_at l.snap.tree id.0)) (take l.kid-index l.kid-items));
}
