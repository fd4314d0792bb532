use Rattle.std.proofs.Common.{◌≡◌, ◌++◌, [], take}
use Rattle.gufi_rows.specs.LaidLines.{AreLines}
use Rattle.gufi_rows.specs.PathLists.{paths_in, picked}
use Rattle.gufi_rows.specs.PathPlaces.{places_of}
use Rattle.gufi_rows.proofs.run.put_stretches.Given as goal

abbrev pub invariant-loop-stretch : goal.invariant-loop-stretch
invariant-loop-stretch l =
    AreLines l.fn.text.items l.fn.spots.items → AreLines l.text.items l.spots.items
    × (paths_in l.text.items l.spots.items ≡ paths_in l.fn.text.items l.fn.spots.items ++ picked l.list [] (places_of (take l.stretch-index l.stretches)))
