use Rattle.std.proofs.Common.{◌∙◌, ◌++◌, sym, subst}
use Rattle.std.proofs.lemmas.List.Sorted.{IsPermutation-sym, IsPermutation-trans, length_permutation}
use Rattle.gufi_rows.specs.PathLists.{ArePlaces}
use Rattle.gufi_rows.specs.PathLines.{ArePathsOf, row_paths}
use Rattle.gufi_rows.specs.PathPlaces.{places_of}
use Rattle.gufi_rows.specs.Runs.{run_paths}
use Rattle.gufi_rows.proofs.Runs.{settled_all}
use Rattle.gufi_rows.proofs.path_list.PathListYield.settle.Goals as goal

pub invariant_of-self-2 : goal.invariant_of-self-2
invariant_of-self-2 c =
    let runs = c.self.inside.runs.items in
    let rest = c.self.inside.rest in
    let places = places_of c.as_slice-stretches.result.now in
    let are = subst (λ l. ArePlaces rest (places_of l)) (sym c.as_slice-stretches.ensures.value) c.in_ok-merged.ensures.places in
    c.self.invariant
    ∙ sym (length_permutation (run_paths runs ++ rest) (run_paths c.push.new.self.items ++ c.new.result)
    (settled_all runs c.push.new.self.items c.in_ok-run.run' rest c.new.result places are c.in_ok-run.ensures c.in_ok-push.ensures.items c.new.ensures))

pub returns : goal.returns
returns c = λ rows of.
    let runs = c.self.inside.runs.items in
    let rest = c.self.inside.rest in
    let old = run_paths runs ++ rest in
    let new = run_paths c.push.new.self.items ++ c.new.result in
    let places = places_of c.as_slice-stretches.result.now in
    let are = subst (λ l. ArePlaces rest (places_of l)) (sym c.as_slice-stretches.ensures.value) c.in_ok-merged.ensures.places in
    let moved = settled_all runs c.push.new.self.items c.in_ok-run.run' rest c.new.result places are c.in_ok-run.ensures c.in_ok-push.ensures.items c.new.ensures in
    IsPermutation-trans new old (row_paths rows) (IsPermutation-sym old new moved) (subst (λ ps. ArePathsOf ps rows) (sym c.self.view_is) of)
