use Rattle.std.proofs.Common.{◌≡◌, ◌≤◌, List, [], map, length, get_or, sym, ap, ◌∙◌, subst, arith}
use Rattle.std.specs.Prelude.{filter}
use Rattle.gufi_base.specs.Paths.{Components}
use Rattle.gufi_tree.specs.Tree.{Directory, own_rows}
use Rattle.gufi_tree.proofs.Linked.{path_at-get}
use Rattle.gufi_walk.specs.Answer.{shown}
use Rattle.gufi_walk.specs.Walk.{meets}
use Rattle.gufi_usage.specs.Usages.{IsUsage}
use Rattle.gufi_usage.proofs.Descents.{IsUsage-none, own-few}
use Rattle.gufi_usage.proofs.near.own_usage.Goals as goal

pub scan-requires-clause-above : goal.scan-requires-clause-above
scan-requires-clause-above g c =
    let tree = c.args.snap.now.tree in
    let k = c.args.id.0 in
    let x : Directory = c.again-store.result in
    let own : x ≡ get_or tree k x = c.again-store.ensures ∙ c.dir.ensures.value x ∙ ap (λ (ds : List Directory). get_or ds k x) c.tree.ensures.tree in
    subst (λ (p : Components). c.args.above ≤ length p) (path_at-get tree k x c.requires.id ∙ ap (λ (d : Directory). d.path) (sym own)) c.requires.above

pub scan-requires-clause-room : goal.scan-requires-clause-room
scan-requires-clause-room g c =
    let tree = c.args.snap.now.tree in
    let k = c.args.id.0 in
    let x : Directory = c.again-store.result in
    let own : x ≡ get_or tree k x = c.again-store.ensures ∙ c.dir.ensures.value x ∙ ap (λ (ds : List Directory). get_or ds k x) c.tree.ensures.tree in
    omega (arith, ap (λ u. u.rows) c.nothing-usage.ensures.usage, ap (λ d. length (own_rows d)) own, own-few tree c.args.who.now c.tree.ensures.shape k c.requires.id x, c.tree.ensures.few)

pub scan-requires-clause-rows : goal.scan-requires-clause-rows
scan-requires-clause-rows g c = ([], IsUsage-none _ c.nothing-usage.ensures.usage c.nothing-usage.ensures.in_range)

pub returns-clause-usage : goal.returns-clause-usage
returns-clause-usage g c = λ d.
    let tree = c.args.snap.now.tree in
    let k = c.args.id.0 in
    let x : Directory = c.again-store.result in
    let own : x ≡ get_or tree k d = c.again-store.ensures ∙ c.dir.ensures.value d ∙ ap (λ (ds : List Directory). get_or ds k d) c.tree.ensures.tree in
    subst (λ (y : Directory). IsUsage c.scan.new.out (filter (meets (g.T.Tester.meets c.args.tester.now) c.args.above) (map (shown c.args.who.now) (own_rows y)))) own
    (c.in_ok-scan.ensures.rows [] (IsUsage-none _ c.nothing-usage.ensures.usage c.nothing-usage.ensures.in_range))
