use Rattle.std.proofs.Common.{◌≡◌, ◌++◌, []}
use Rattle.gufi_rows.specs.LaidLines.{AreLines}
use Rattle.gufi_rows.specs.PathLists.{paths_in, picked}
use Rattle.gufi_rows.specs.PathPlaces.{places_between}
use Rattle.gufi_rows.proofs.run.put_stretch.Given as goal

abbrev pub invariant-loop-place : goal.invariant-loop-place
invariant-loop-place l =
    AreLines l.fn.text.items l.fn.spots.items → AreLines l.text.items l.spots.items
    × (paths_in l.text.items l.spots.items ≡ paths_in l.fn.text.items l.fn.spots.items ++ picked l.list [] (places_between l.fn.stretch.from l.place))
