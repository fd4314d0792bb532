use Rattle.std.proofs.Common.{◌≡◌, ◌++◌, [], take}
use Rattle.gufi_rows.specs.LaidLines.{lines_of}
use Rattle.gufi_rows.specs.PathLists.{picked}
use Rattle.gufi_rows.specs.PathPlaces.{places_of}
use Rattle.gufi_rows.specs.Runs.{run_paths}
use Rattle.gufi_rows.proofs.run_places.RunPlaces.put_stretches.Given as goal

abbrev pub invariant-loop-stretch : goal.invariant-loop-stretch
invariant-loop-stretch l = l.text.items ≡ l.fn.text.items ++ lines_of (picked (run_paths l.self.runs.now) [] (places_of (take l.stretch-index l.stretches)))
