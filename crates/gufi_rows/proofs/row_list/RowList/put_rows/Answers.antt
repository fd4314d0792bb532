use Rattle.std.proofs.Common.{◌≡◌, ◌∙◌, ◌++◌, ◌∷◌, [], get_or, sym, ap, subst, arith}
use Rattle.std.proofs.lemmas.List.{append-nil, map-append}
use Rattle.gufi_base.specs.declared.record.Row.{Row}
use Rattle.gufi_rows.specs.PathLists.{picked}
use Rattle.gufi_rows.specs.PathPlaces.{places_between}
use Rattle.gufi_rows.specs.RowLists.{no_row}
use Rattle.gufi_rows.proofs.Stretches.{place_more, places-none}
use Rattle.gufi_rows.proofs.row_list.RowList.put_rows.Goals as goal

pub loop-place-init : goal.loop-place-init
loop-place-init c =
    let rows = c.args.rows.now.items in
    sym (ap (λ ks. rows ++ picked c.args.self.now no_row ks) (places-none c.args.stretch.from) ∙ append-nil rows)

pub loop-place-preserved : goal.loop-place-preserved
loop-place-preserved c =
    let all = c.args.self.now in
    let place = c.loop-place.place in
    place_more (picked all no_row) (map-append (λ k. get_or all k no_row)) c.args.stretch.from place c.args.rows.now.items c.loop-place.rows.items c.push.new.self.items (omega arith) c.loop-place.invariant
    (c.in_ok-push.ensures.items ∙ ap (λ (r : Row). c.loop-place.rows.items ++ r ∷ []) (c.in_ok-row.ensures (get_or all place no_row) c.row_at.ensures))

pub returns : goal.returns
returns c =
    let all : c.loop-place.place ≡ c.args.stretch.end = omega (arith, c.args.stretch.some) in
    subst (λ k. c.loop-place.rows.items ≡ c.args.rows.now.items ++ picked c.args.self.now no_row (places_between c.args.stretch.from k)) all c.loop-place.invariant
