use Rattle.std.proofs.Common.{◌≡◌, ◌<◌, ◌-◌, cond, get_or, ◌+◌, ◌∙◌, [], ◌∷◌, List, length, sym, ap, subst, arith, append_assoc, length-append}
use Rattle.gufi_base.specs.Paths.{Components}
use Rattle.gufi_base.specs.Rows.{Stands}
use Rattle.gufi_tree.specs.declared.tree.Entry.{Entry}
use Rattle.gufi_tree.specs.Tree.{Directory, entry_row}
use Rattle.gufi_store.specs.Scan.{is_met}
use Rattle.gufi_store.proofs.Entries.{filter-own_rows, room_left}
use Rattle.gufi_store.proofs.DirStore.scan_rows.Goals as goal

pub offer-requires-clause-row : goal.offer-requires-clause-row
offer-requires-clause-row g c = (_, c.own_row-own.ensures)

pub offer-requires-in-loop-place-clause-row : goal.offer-requires-in-loop-place-clause-row
offer-requires-in-loop-place-clause-row g c =
    (entry_row c.path-path.result c.at.result, c.row_below-row.ensures c.path-path.result c.text-stem.ensures.names c.text-stem.ensures.text)

pub offer-requires-in-loop-place-clause-room : goal.offer-requires-in-loop-place-clause-room
offer-requires-in-loop-place-clause-room g c =
    let d : Directory = c.args.self.now in
    let start = c.requires.rows in
    let es : c.entries-entries.result ≡ d.entries = c.entries-entries.ensures ∙ ap (λ (d : Directory). d.entries) c.self.view_is in
    let law = g.met.Y.Yield.counted in
    room_left (is_met c.args.above (g.T.Tester.meets c.args.tester.now)) (g.V.View.shows c.args.view.now) d c.loop-place.place (g.Y.Yield.count c.args.out.now) (g.Y.Yield.count c.loop-place.out) start.0
    (subst (λ n. c.loop-place.place < n) (c.len-place-end.ensures ∙ ap (λ (l : List Entry). length l) es) c.loop-place-test.true)
    c.requires.room (law _ _ start.1) (law _ _ (c.loop-place.invariant.rows start.0 start.1))

pub loop-place-preserved : goal.loop-place-preserved
loop-place-preserved g c =
    let d : Directory = c.args.self.now in
    let x = c.at.result in
    let meets = g.T.Tester.meets c.args.tester.now in
    let shows = g.V.View.shows c.args.view.now in
    let asked = c.loop-place.invariant.same in
    let ps : c.path-path.result ≡ d.path = c.path-path.ensures ∙ ap (λ (d : Directory). d.path) c.self.view_is in
    let es : c.entries-entries.result ≡ d.entries = c.entries-entries.ensures ∙ ap (λ (d : Directory). d.entries) c.self.view_is in
    let inside : c.loop-place.place < length d.entries = subst (λ n. c.loop-place.place < n) (c.len-place-end.ensures ∙ ap (λ (l : List Entry). length l) es) c.loop-place-test.true in
    let is : x ≡ get_or d.entries c.loop-place.place x = subst (λ l. x ≡ get_or l c.loop-place.place x) es (c.at.ensures x) in
    let stands_here : Stands c.row_below-row.result (entry_row d.path x) =
    subst (λ (p : Components). Stands c.row_below-row.result (entry_row p x)) ps (c.row_below-row.ensures c.path-path.result c.text-stem.ensures.names c.text-stem.ensures.text) in
    let deep : c.in_ok-depth.depth + 1 ≡ length (shows (entry_row d.path x)).path - c.args.above =
    omega (arith, ap (λ (p : Components). length p) (g.V.View.same_path c.args.view.now (entry_row d.path x)), length-append d.path (x.name ∷ []), c.in_ok-depth.ensures.0, c.depth.ensures, ap (λ (p : Components). length p) c.path-path.ensures, ap (λ (p : Components). length p) ps, c.requires.above) in
    let more = filter-own_rows (is_met c.args.above meets) shows d c.loop-place.place x inside is in
    record {
      same = c.in_ok-offer-2.ensures.same ∙ asked;
      rows = λ rows stands. rw (more, ← append_assoc, ← deep, ap (λ m. cond (m (shows (entry_row d.path x)) (c.in_ok-depth.depth + 1)) (shows (entry_row d.path x) ∷ []) []) (sym asked)) (c.in_ok-offer-2.ensures.rows (entry_row d.path x) _ stands_here (c.loop-place.invariant.rows rows stands));
    }
