use Rattle.std.proofs.Common.{◌∙◌, ap, sym, subst}
use Rattle.std.specs.List.Sorted.{IsPermutation}
use Rattle.std.proofs.lemmas.List.Sorted.{IsPermutation-sym, IsPermutation-trans}
use Rattle.gufi_rows.specs.PathLists.{ArePlaces, picked}
use Rattle.gufi_rows.specs.PathPlaces.{places_of}
use Rattle.gufi_rows.specs.RowLists.{rows_in}
use Rattle.gufi_rows.proofs.Arranged.{AreRecords-arranged, no_kept, rows_in-arranged}
use Rattle.gufi_rows.proofs.row_list.RowListYield.settle.Goals as goal

pub invariant_of-self-2 : goal.invariant_of-self-2
invariant_of-self-2 c =
    let s = c.self.inside in
    let places = places_of c.as_slice-stretches.result.now in
    AreRecords-arranged s.links.items s.paths c.arrange.new.self s.records.items c.in_ok-records.records.items c.self.invariant places
    (subst (λ l. ArePlaces s.paths (places_of l)) (sym c.as_slice-stretches.ensures.value) c.in_ok-merged.ensures.places)
    c.in_ok-arrange.ensures.arranged (c.in_ok-records.ensures no_kept ∙ ap (λ l. picked l no_kept places) c.as_slice.ensures.value)

pub returns : goal.returns
returns c = λ rows of.
    let s = c.self.inside in
    let places = places_of c.as_slice-stretches.result.now in
    let new = rows_in s.links.items c.arrange.new.self c.in_ok-records.records.items in
    let moved = rows_in-arranged s.links.items s.paths c.arrange.new.self s.records.items c.in_ok-records.records.items c.self.invariant places
    (subst (λ l. ArePlaces s.paths (places_of l)) (sym c.as_slice-stretches.ensures.value) c.in_ok-merged.ensures.places)
    c.in_ok-arrange.ensures.arranged (c.in_ok-records.ensures no_kept ∙ ap (λ l. picked l no_kept places) c.as_slice.ensures.value) in
    IsPermutation-trans new c.args.self.now rows (IsPermutation-sym c.args.self.now new (subst (λ l. IsPermutation l new) c.self.view_is moved)) of
