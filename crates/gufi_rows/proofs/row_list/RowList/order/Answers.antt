use Rattle.std.proofs.Common.{◌≡◌, ◌≤◌, ◌∙◌, sym, ap, subst, length, get_or}
use Rattle.std.specs.Prelude.{All}
use Rattle.std.specs.List.{range_with_len}
use Rattle.std.specs.List.Sorted.{IsPermutation}
use Rattle.gufi_rows.specs.declared.stretch.Stretch.{Stretch}
use Rattle.gufi_rows.specs.PathLists.{picked}
use Rattle.gufi_rows.specs.PathPlaces.{places_of}
use Rattle.gufi_rows.specs.RowLists.{no_row}
use Rattle.gufi_rows.proofs.PathLists.{picked-IsPermutation}
use Rattle.gufi_rows.proofs.RowLists.{length-rows_in, path_in_rows, rows_sorted, rows_only}
use Rattle.gufi_rows.proofs.row_list.RowList.order.Goals as goal

pub returns-clause-within : goal.returns-clause-within
returns-clause-within c =
    let s = c.self.inside in
    let size : length s.paths ≡ length c.args.self.now = c.self.invariant.alike ∙ sym (length-rows_in s.links.items s.paths s.records.items c.self.invariant.alike) ∙ ap length c.self.view_is in
    subst (λ n. All (λ (s : Stretch). s.end ≤ n) c.in_ok-stretches.stretches.items) size (λ k d h. (c.in_ok-stretches.ensures.stretches.each k d h).within)

pub returns-clause-moved : goal.returns-clause-moved
returns-clause-moved c =
    let s = c.self.inside in
    let size : length s.paths ≡ length c.args.self.now = c.self.invariant.alike ∙ sym (length-rows_in s.links.items s.paths s.records.items c.self.invariant.alike) ∙ ap length c.self.view_is in
    let places = places_of c.in_ok-stretches.stretches.items in
    picked-IsPermutation c.args.self.now no_row places (subst (λ n. IsPermutation (range_with_len 0 n) places) size c.in_ok-stretches.ensures.stretches.places)

pub returns-clause-sorted : goal.returns-clause-sorted
returns-clause-sorted c =
    let s = c.self.inside in
    rows_sorted c.args.self.now s.paths (places_of c.in_ok-stretches.stretches.items)
    (λ k. ap (λ rows. (get_or rows k no_row).path) (sym c.self.view_is) ∙ path_in_rows s.links.items s.paths s.records.items k c.self.invariant.alike)
    c.in_ok-stretches.ensures.order

pub returns-clause-only : goal.returns-clause-only
returns-clause-only c = λ other h up.
    rows_only c.args.self.now other (picked c.args.self.now no_row (places_of c.in_ok-stretches.stretches.items)) (returns-clause-moved c) (returns-clause-sorted c) h up
