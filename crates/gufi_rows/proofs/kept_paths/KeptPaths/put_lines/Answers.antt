use Rattle.std.proofs.Common.{◌∙◌, ◌++◌, [], ap}
use Rattle.std.specs.List.{flat_map}
use Rattle.gufi_rows.specs.PathLists.{picked}
use Rattle.gufi_rows.specs.PathLines.{path_line}
use Rattle.gufi_rows.specs.PathPlaces.{places_of}
use Rattle.gufi_rows.proofs.PathLists.{picked-rows, picked-lines}
use Rattle.gufi_rows.proofs.kept_paths.KeptPaths.put_lines.Goals as goal

pub returns : goal.returns
returns c = λ rows of up.
    let text = c.args.text.now.items in
    c.in_ok-put_stretches.ensures ∙ ap (λ t. t ++ flat_map path_line (picked c.args.self [] (places_of c.as_slice.result.now))) c.in_ok-reserve.ensures.items
    ∙ ap (λ l. text ++ flat_map path_line (picked c.args.self [] (places_of l))) c.as_slice.ensures.value
    ∙ ap (λ l. text ++ l) (ap (flat_map path_line) (picked-rows c.args.self (places_of c.in_ok-stretches.stretches.items) rows c.in_ok-stretches.ensures.stretches.places c.in_ok-stretches.ensures.order of up) ∙ picked-lines rows)
