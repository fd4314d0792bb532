use Rattle.std.proofs.Common.{Bool, ◌+◌, ◌<◌, ◌^◌, List, ◌++◌, map, length, sym, ap, ◌∙◌, subst}
use Rattle.std.specs.Prelude.{filter}
use Rattle.std.specs.List.{flat_map}
use Rattle.gufi_base.specs.declared.record.Row.{Row}
use Rattle.gufi_tree.specs.Tree.{Directory, own_rows}
use Rattle.gufi_tree.specs.Places.{path_at}
use Rattle.gufi_store.specs.Scan.{is_met}
use Rattle.gufi_snap.proofs.Pieces.{on_ok, under-length, under-met}
use Rattle.gufi_snap.proofs.contents.Contents.scan_below.Goals as goal

pub scan_fold-requires-clause-room : goal.scan_fold-requires-clause-room
scan_fold-requires-clause-room g c =
    let tree = c.args.self.now in
    let count = g.Y.Yield.count c.args.out.now in
    subst (λ n. count + n < 2 ^ 40) (under-length tree c.stores_below.ensures.shape (path_at tree c.args.id.0) ∙ ap (λ ds. length (flat_map own_rows ds)) (sym c.stores_below.ensures.dirs)) c.requires.room

pub returns-clause-rows : goal.returns-clause-rows
returns-clause-rows g c =
    let tree = c.args.self.now in
    let met : Row → Bool = is_met c.args.above (g.T.Tester.meets c.args.tester.now) in
    let shows : Row → Row = g.V.View.shows c.args.view.now in
    let law = g.met.Y.Yield.reordered in
    on_ok c.scan_fold.result _ _
    (λ given rows stands. law _ _ _ (under-met tree c.stores_below.ensures.shape (path_at tree c.args.id.0) met shows rows)
    (subst (λ (ds : List Directory). g.Y.Yield.stands_for c.scan_fold.new.out (rows ++ filter met (map shows (flat_map own_rows ds)))) c.stores_below.ensures.dirs (given rows stands)))
    c.scan_fold.ensures.rows
