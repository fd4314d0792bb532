use Rattle.std.proofs.Common.{◌≡◌, Bool, ◌+◌, ◌<◌, ◌≤◌, ◌^◌, List, ◌++◌, map, length, get_or, sym, ap, ◌∙◌, subst}
use Rattle.std.specs.Prelude.{filter}
use Rattle.gufi_base.specs.declared.record.Row.{Row}
use Rattle.gufi_base.specs.Paths.{Components}
use Rattle.gufi_tree.specs.Tree.{Directory, own_rows, HasTreeShape}
use Rattle.gufi_tree.proofs.Linked.{path_at-get}
use Rattle.gufi_store.specs.Scan.{is_met}
use Rattle.gufi_snap.proofs.Pieces.{on_ok, own-length, own-met}
use Rattle.gufi_snap.proofs.contents.Contents.scan_own.Goals as goal

pub scan-requires-clause-above : goal.scan-requires-clause-above
scan-requires-clause-above g c =
    let tree = c.args.self.now in
    let k = c.args.id.0 in
    let x : Directory = c.again.result in
    let own : x ≡ get_or tree k x = c.again.ensures ∙ c.dir.ensures.value x ∙ ap (λ (ds : List Directory). get_or ds k x) c.self.view_is in
    subst (λ (p : Components). c.args.above ≤ length p) (path_at-get tree k x c.requires.id ∙ ap (λ (d : Directory). d.path) (sym own)) c.requires.above

pub scan-requires-clause-room : goal.scan-requires-clause-room
scan-requires-clause-room g c =
    let tree = c.args.self.now in
    let k = c.args.id.0 in
    let x : Directory = c.again.result in
    let shape : HasTreeShape tree = subst HasTreeShape c.self.view_is c.self.invariant.shape in
    let own : x ≡ get_or tree k x = c.again.ensures ∙ c.dir.ensures.value x ∙ ap (λ (ds : List Directory). get_or ds k x) c.self.view_is in
    let count = g.Y.Yield.count c.args.out.now in
    subst (λ n. count + n < 2 ^ 40) (own-length tree shape k c.requires.id x ∙ ap (λ d. length (own_rows d)) (sym own)) c.requires.room

pub returns-clause-rows : goal.returns-clause-rows
returns-clause-rows g c =
    let tree = c.args.self.now in
    let k = c.args.id.0 in
    let x : Directory = c.again.result in
    let shape : HasTreeShape tree = subst HasTreeShape c.self.view_is c.self.invariant.shape in
    let own : x ≡ get_or tree k x = c.again.ensures ∙ c.dir.ensures.value x ∙ ap (λ (ds : List Directory). get_or ds k x) c.self.view_is in
    let met : Row → Bool = is_met c.args.above (g.T.Tester.meets c.args.tester.now) in
    let shows : Row → Row = g.V.View.shows c.args.view.now in
    let law = g.met.Y.Yield.reordered in
    on_ok c.scan.result _ _
    (λ given rows stands. law _ _ _ (own-met tree shape k c.requires.id x met shows rows) (subst (λ d. g.Y.Yield.stands_for c.scan.new.out (rows ++ filter met (map shows (own_rows d)))) own (given rows stands)))
    c.scan.ensures.rows
