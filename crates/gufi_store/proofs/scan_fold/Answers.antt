use Rattle.std.proofs.Common.{◌≡◌, ◌<◌, ◌≤◌, ◌∙◌, ◌++◌, length, take, get_or, ap, refl, sym, subst, append_assoc}
use Rattle.std.proofs.lemmas.List.{append-nil}
use Rattle.gufi_tree.specs.Tree.{Directory}
use Rattle.gufi_store.specs.Scan.{is_met, rows_met, rows_met_in}
use Rattle.gufi_store.proofs.Folds.{filter-next, room_for_next}
use Rattle.gufi_store.proofs.scan_fold.Goals as goal

pub loop-place-init : goal.loop-place-init
loop-place-init g c = record {
  same = refl;
  rows = λ rows stands. subst (g.Y.Yield.stands_for c.args.out.now) (sym (append-nil rows)) stands;
}

pub scan_rows-requires-clause-above : goal.scan_rows-requires-clause-above
scan_rows-requires-clause-above g c =
    let inside : c.loop-place.place < length c.args.stores.now = subst (λ n. c.loop-place.place < n) c.len-place-end.ensures c.loop-place-test.true in
    let is : c.again.result ≡ get_or c.args.stores.now c.loop-place.place c.again.result = c.again.ensures ∙ c.at.ensures c.again.result in
    subst (λ (d : Directory). c.args.above ≤ length d.path) (sym is) (c.requires.above c.loop-place.place c.again.result inside)

pub scan_rows-requires-clause-room : goal.scan_rows-requires-clause-room
scan_rows-requires-clause-room g c =
    let start = c.requires.rows in
    let law = g.met.Y.Yield.counted in
    let inside : c.loop-place.place < length c.args.stores.now = subst (λ n. c.loop-place.place < n) c.len-place-end.ensures c.loop-place-test.true in
    room_for_next (is_met c.args.above (g.T.Tester.meets c.args.tester.now)) (g.V.View.shows c.args.view.now) c.args.stores.now c.loop-place.place (g.Y.Yield.count c.args.out.now) (g.Y.Yield.count c.loop-place.out) c.again.result start.0
    inside (c.again.ensures ∙ c.at.ensures c.again.result) c.requires.room (law _ _ start.1) (law _ _ (c.loop-place.invariant.rows start.0 start.1))

pub loop-place-preserved : goal.loop-place-preserved
loop-place-preserved g c =
    let meets = g.T.Tester.meets c.args.tester.now in
    let shows = g.V.View.shows c.args.view.now in
    let asked = c.loop-place.invariant.same in
    let inside : c.loop-place.place < length c.args.stores.now = subst (λ n. c.loop-place.place < n) c.len-place-end.ensures c.loop-place-test.true in
    let is : c.again.result ≡ get_or c.args.stores.now c.loop-place.place c.again.result = c.again.ensures ∙ c.at.ensures c.again.result in
    record {
      same = c.in_ok-scan_rows.ensures.same ∙ asked;
      rows = λ rows stands. subst (g.Y.Yield.stands_for c.scan_rows.new.out)
          (ap (λ sat. (rows ++ rows_met_in c.args.above meets shows (take c.loop-place.place c.args.stores.now)) ++ rows_met c.args.above sat shows c.again.result) asked
          ∙ append_assoc rows _ _ ∙ ap (λ l. rows ++ l) (filter-next (is_met c.args.above meets) shows c.args.stores.now c.loop-place.place c.again.result inside is))
          (c.in_ok-scan_rows.ensures.rows _ (c.loop-place.invariant.rows rows stands));
    }
