use Rattle.std.proofs.Common.{◌∙◌, ◌++◌, sym, ap, subst, arith}
use Rattle.std.proofs.lemmas.List.{append-nil, nil_from_length}
use Rattle.std.proofs.lemmas.List.Sorted.{IsPermutation-append_comm, IsPermutation-trans}
use Rattle.gufi_rows.specs.PathLines.{ArePathsOf, row_paths}
use Rattle.gufi_rows.specs.Runs.{run_paths}
use Rattle.gufi_rows.proofs.path_list.PathList.put_lines.Goals as goal

pub returns-then-len-eq0 : goal.returns-then-len-eq0
returns-then-len-eq0 c = λ rows of up.
    let runs = c.self.inside.runs.items in
    let rest = c.self.inside.rest in
    let none = nil_from_length rest (omega (arith, c.len.ensures)) in
    let are = subst (λ ps. ArePathsOf ps rows) (sym (sym (ap (λ l. run_paths runs ++ l) none ∙ append-nil (run_paths runs)) ∙ c.self.view_is)) of in
    c.in_ok-put_runs.ensures rows (subst (λ l. ArePathsOf (run_paths l) rows) (sym c.as_slice.ensures.value) are) up

pub returns : goal.returns
returns c = λ rows of up.
    let runs = c.self.inside.runs.items in
    let rest = c.self.inside.rest in
    let all = c.in_ok-push_runs.ensures ∙ ap (λ l. rest ++ run_paths l) c.as_slice-2.ensures.value in
    c.in_ok-put_lines.ensures rows
    (subst (λ ps. ArePathsOf ps rows) (sym all)
    (IsPermutation-trans (rest ++ run_paths runs) (run_paths runs ++ rest) (row_paths rows) (IsPermutation-append_comm rest (run_paths runs)) (subst (λ ps. ArePathsOf ps rows) (sym c.self.view_is) of)))
    up
