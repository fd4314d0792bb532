use Rattle.std.proofs.Common.{◌≡◌, ◌++◌, take}
use Rattle.gufi_rows.specs.Runs.{run_paths}
use Rattle.gufi_rows.proofs.path_list.push_runs.Given as goal

abbrev pub invariant-loop-run : goal.invariant-loop-run
invariant-loop-run l = l.rest ≡ l.fn.rest ++ run_paths (take l.run-index l.runs)
