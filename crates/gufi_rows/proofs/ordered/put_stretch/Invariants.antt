use Rattle.std.proofs.Common.{◌≡◌, ◌++◌}
use Rattle.gufi_rows.specs.PathPlaces.{places_between}
use Rattle.gufi_rows.proofs.ordered.put_stretch.Given as goal

abbrev pub invariant-loop-place : goal.invariant-loop-place
invariant-loop-place l = l.places.items ≡ l.fn.places.items ++ places_between l.fn.stretch.from l.place
