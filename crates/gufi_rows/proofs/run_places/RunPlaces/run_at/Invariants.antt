use Rattle.std.proofs.Common.{◌+◌, ◌-◌, ◌<◌, ◌≤◌, length, take}
use Rattle.gufi_rows.specs.Runs.{run_paths}
use Rattle.gufi_rows.proofs.run_places.RunPlaces.run_at.Given as goal

abbrev pub invariant-halving : goal.invariant-halving
invariant-halving l = record {
  order : l.low ≤ l.high;
  within : l.high ≤ length l.self.runs.now;
  low : length (run_paths (take l.low l.self.runs.now)) ≤ l.place;
  high : l.high < length l.self.runs.now → l.place < length (run_paths (take (l.high + 1) l.self.runs.now));
}

abbrev pub decreases-halving : goal.decreases-halving
decreases-halving l = l.high - l.low
