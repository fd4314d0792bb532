use Rattle.std.proofs.Common.{◌∙◌, ◌++◌, [], sym, ap, subst}
use Rattle.std.specs.List.{flat_map}
use Rattle.gufi_rows.specs.PathLists.{picked}
use Rattle.gufi_rows.specs.PathLines.{ArePathsOf, path_line}
use Rattle.gufi_rows.specs.PathPlaces.{places_of}
use Rattle.gufi_rows.specs.Runs.{run_paths}
use Rattle.gufi_rows.proofs.PathLists.{picked-rows, picked-lines}
use Rattle.gufi_rows.proofs.path_list.put_runs.Goals as goal

pub returns : goal.returns
returns c = λ rows of up.
    let text = c.args.text.now.items in
    let list = run_paths c.in_ok-places.places.runs.now in
    let are = subst (λ ps. ArePathsOf ps rows) (sym (ap run_paths c.in_ok-places.ensures)) of in
    c.in_ok-put_stretches.ensures ∙ ap (λ t. t ++ flat_map path_line (picked list [] (places_of c.as_slice.result.now))) c.in_ok-reserve.ensures.items
    ∙ ap (λ l. text ++ flat_map path_line (picked list [] (places_of l))) c.as_slice.ensures.value
    ∙ ap (λ l. text ++ l) (ap (flat_map path_line) (picked-rows list (places_of c.in_ok-stretches.stretches.items) rows c.in_ok-stretches.ensures.stretches.places c.in_ok-stretches.ensures.order are up) ∙ picked-lines rows)
