use Rattle.std.proofs.Common.{◌≡◌, ◌∙◌, ◌++◌, get_or, sym, ap, subst, arith}
use Rattle.std.proofs.lemmas.List.{append-nil}
use Rattle.gufi_rows.specs.PathPlaces.{places_between}
use Rattle.gufi_rows.specs.RowLists.{no_row}
use Rattle.gufi_rows.proofs.PathLists.{texts_at, texts-join}
use Rattle.gufi_rows.proofs.Stretches.{place_more, places-none}
use Rattle.gufi_rows.proofs.row_lines.put_stretch.Goals as goal

pub loop-place-init : goal.loop-place-init
loop-place-init g c =
    let text = c.args.text.now.items in
    sym (ap (λ ks. text ++ texts_at (g.L.RowLine.line c.args.line.now) c.args.list.now no_row ks) (places-none c.args.stretch.from) ∙ append-nil text)

pub put-requires : goal.put-requires
put-requires g c = (get_or c.args.list.now c.loop-place.place no_row, c.row_at.ensures)

pub loop-place-preserved : goal.loop-place-preserved
loop-place-preserved g c =
    let list = c.args.list.now in
    let text = g.L.RowLine.line c.args.line.now in
    let row = get_or list c.loop-place.place no_row in
    place_more (texts_at text list no_row) (texts-join text list no_row) c.args.stretch.from c.loop-place.place c.args.text.now.items c.loop-place.text.items c.put.new.out.items (omega arith) c.loop-place.invariant
    (c.in_ok-put.ensures row c.row_at.ensures ∙ ap (λ l. c.loop-place.text.items ++ l) (sym (append-nil (text row))))

pub returns : goal.returns
returns g c =
    let all : c.loop-place.place ≡ c.args.stretch.end = omega (arith, c.args.stretch.some) in
    subst (λ k. c.loop-place.text.items ≡ c.args.text.now.items ++ texts_at (g.L.RowLine.line c.args.line.now) c.args.list.now no_row (places_between c.args.stretch.from k)) all c.loop-place.invariant
