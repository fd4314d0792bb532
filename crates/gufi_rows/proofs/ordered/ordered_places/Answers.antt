use Rattle.std.proofs.Common.{◌≡◌, ◌<◌, ◌∙◌, length, sym, ap, subst}
use Rattle.std.specs.Prelude.{All}
use Rattle.gufi_rows.specs.PathLists.{picked}
use Rattle.gufi_rows.specs.PathPlaces.{places_of}
use Rattle.gufi_rows.specs.RowLists.{no_row}
use Rattle.gufi_rows.proofs.Arranged.{places-within}
use Rattle.gufi_rows.proofs.ordered.ordered_places.Goals as goal

pub returns-clause-within : goal.returns-clause-within
returns-clause-within c =
    let rows = c.args.rows.now in
    let are : c.in_ok-places.places.items ≡ places_of c.in_ok-stretches.stretches.items = c.in_ok-places.ensures ∙ ap places_of c.as_slice.ensures.value in
    subst (All (λ k. k < length rows)) (sym are) (places-within (length rows) c.in_ok-stretches.stretches.items c.in_ok-stretches.ensures.within)

pub returns-clause-only : goal.returns-clause-only
returns-clause-only c = λ other moved up.
    let rows = c.args.rows.now in
    let are : c.in_ok-places.places.items ≡ places_of c.in_ok-stretches.stretches.items = c.in_ok-places.ensures ∙ ap places_of c.as_slice.ensures.value in
    ap (picked rows no_row) are ∙ c.in_ok-stretches.ensures.only other moved up
