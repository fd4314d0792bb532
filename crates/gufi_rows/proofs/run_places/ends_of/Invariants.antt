use Rattle.std.proofs.Common.{◌≡◌, ◌+◌, ◌<◌, ℕ, length, take, get_or}
use Rattle.gufi_rows.specs.Runs.{run_paths}
use Rattle.gufi_rows.proofs.run_places.ends_of.Given as goal

abbrev pub invariant-loop-run : goal.invariant-loop-run
invariant-loop-run l = record {
  total : l.total ≡ length (run_paths (take l.run-index l.runs));
  alike : length l.ends.items ≡ l.run-index;
  each : (k d : ℕ) → k < l.run-index → get_or l.ends.items k d ≡ length (run_paths (take (k + 1) l.runs));
}
