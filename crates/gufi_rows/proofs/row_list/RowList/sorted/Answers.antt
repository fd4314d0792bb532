use Rattle.std.proofs.Common.{◌≤◌, ◌∙◌, sym, ap, subst, length}
use Rattle.std.specs.Prelude.{All}
use Rattle.std.specs.Ordering.{is_lt}
use Rattle.std.specs.List.Sorted.{IsPermutation, IsSortedBy}
use Rattle.gufi_rows.specs.declared.stretch.Stretch.{Stretch}
use Rattle.gufi_base.specs.Rows.{row_cmp}
use Rattle.gufi_rows.specs.PathLists.{picked}
use Rattle.gufi_rows.specs.PathPlaces.{places_of}
use Rattle.gufi_rows.specs.RowLists.{no_row}
use Rattle.gufi_rows.proofs.row_list.RowList.sorted.Goals as goal

pub rows_at-requires : goal.rows_at-requires
rows_at-requires c = subst (All (λ (s : Stretch). s.end ≤ length c.args.self)) (sym c.as_slice.ensures.value) c.in_ok-stretches.ensures.within

pub returns-clause-moved : goal.returns-clause-moved
returns-clause-moved c =
    subst (IsPermutation c.args.self) (sym (c.in_ok-rows.ensures ∙ ap (λ l. picked c.args.self no_row (places_of l)) c.as_slice.ensures.value)) c.in_ok-stretches.ensures.moved

pub returns-clause-sorted : goal.returns-clause-sorted
returns-clause-sorted c =
    subst (IsSortedBy (λ a b. is_lt (row_cmp a b))) (sym (c.in_ok-rows.ensures ∙ ap (λ l. picked c.args.self no_row (places_of l)) c.as_slice.ensures.value)) c.in_ok-stretches.ensures.sorted

pub returns-clause-only : goal.returns-clause-only
returns-clause-only c = λ other h up.
    c.in_ok-rows.ensures ∙ ap (λ l. picked c.args.self no_row (places_of l)) c.as_slice.ensures.value ∙ c.in_ok-stretches.ensures.only other h up
