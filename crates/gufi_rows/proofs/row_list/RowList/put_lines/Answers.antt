use Rattle.std.proofs.Common.{◌≤◌, ◌++◌, ◌∙◌, length, sym, ap, subst}
use Rattle.std.specs.Prelude.{All}
use Rattle.std.specs.List.{flat_map}
use Rattle.gufi_rows.specs.declared.stretch.Stretch.{Stretch}
use Rattle.gufi_rows.specs.PathLists.{picked}
use Rattle.gufi_rows.specs.PathPlaces.{places_of}
use Rattle.gufi_rows.specs.RowLists.{no_row}
use Rattle.gufi_rows.proofs.row_list.RowList.put_lines.Goals as goal

pub put_stretches-requires : goal.put_stretches-requires
put_stretches-requires g c = subst (All (λ (s : Stretch). s.end ≤ length c.args.self)) (sym c.as_slice.ensures.value) c.in_ok-stretches.ensures.within

pub returns : goal.returns
returns g c = λ rows are up.
    c.in_ok-put_stretches.ensures
    ∙ ap (λ l. c.args.text.now.items ++ flat_map (g.L.RowLine.line c.args.line.now) l)
    (ap (λ s. picked c.args.self no_row (places_of s)) c.as_slice.ensures.value ∙ c.in_ok-stretches.ensures.only rows are up)
