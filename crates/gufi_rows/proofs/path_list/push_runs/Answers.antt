use Rattle.std.proofs.Common.{◌∙◌, ◌++◌, sym, ap, append_assoc, take}
use Rattle.gufi_rows.specs.Runs.{run_paths}
use Rattle.gufi_rows.proofs.Runs.{run_paths-more}
use Rattle.gufi_rows.proofs.path_list.push_runs.Goals as goal

pub loop-run-preserved : goal.loop-run-preserved
loop-run-preserved c =
    let runs = c.args.runs.now in
    let i = c.loop-run.run-index in
    let run = c.run-item.result in
    c.in_ok-push_lines.ensures ∙ ap (λ l. l ++ run.lines) c.loop-run.invariant ∙ append_assoc c.args.rest.now (run_paths (take i runs)) run.lines
    ∙ ap (λ l. c.args.rest.now ++ l) (sym (run_paths-more runs i run c.loop-run-test.true c.run-item.is))
