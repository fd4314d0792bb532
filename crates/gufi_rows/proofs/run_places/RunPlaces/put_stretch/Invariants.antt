use Rattle.std.proofs.Common.{◌≡◌, ◌++◌, ◌-◌, ◌≤◌, []}
use Rattle.gufi_rows.specs.LaidLines.{lines_of}
use Rattle.gufi_rows.specs.PathLists.{picked}
use Rattle.gufi_rows.specs.PathPlaces.{places_between}
use Rattle.gufi_rows.specs.Runs.{run_paths}
use Rattle.gufi_rows.proofs.run_places.RunPlaces.put_stretch.Given as goal

abbrev pub invariant-runs : goal.invariant-runs
invariant-runs l = record {
  low : l.stretch.from ≤ l.from;
  high : l.from ≤ l.stretch.end;
  text : l.text.items ≡ l.fn.text.items ++ lines_of (picked (run_paths l.self.runs.now) [] (places_between l.stretch.from l.from));
}

abbrev pub decreases-runs : goal.decreases-runs
decreases-runs l = l.stretch.end - l.from
