use Rattle.std.proofs.Common.{◌∙◌, ◌++◌, sym, ap, subst}
use Rattle.std.specs.List.Sorted.{IsPermutation}
use Rattle.gufi_rows.specs.Runs.{run_paths}
use Rattle.gufi_rows.proofs.Runs.{joined_runs}
use Rattle.gufi_rows.proofs.path_list.PathList.joined.Goals as goal

pub returns : goal.returns
returns c =
    let runs = c.self.inside.runs.items in
    let more = c.other.inside.runs.items in
    let rest = c.self.inside.rest in
    let others = c.other.inside.rest in
    let all = c.append-2.new.self in
    subst (λ l. IsPermutation l (run_paths c.append.new.self.items ++ all)) (ap (λ l. l ++ (run_paths more ++ others)) c.self.view_is ∙ ap (λ l. c.args.self ++ l) c.other.view_is)
    (subst (IsPermutation ((run_paths runs ++ rest) ++ (run_paths more ++ others)))
    (sym (ap (λ l. run_paths l ++ all) c.in_ok-append.ensures.items ∙ ap (λ l. run_paths (runs ++ more) ++ l) c.in_ok-append-2.ensures.appended)) (joined_runs runs more rest others))
