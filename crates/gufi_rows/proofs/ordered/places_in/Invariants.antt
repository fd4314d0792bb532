use Rattle.std.proofs.Common.{◌≡◌, take}
use Rattle.gufi_rows.specs.PathPlaces.{places_of}
use Rattle.gufi_rows.proofs.ordered.places_in.Given as goal

abbrev pub invariant-loop-stretch : goal.invariant-loop-stretch
invariant-loop-stretch l = l.places.items ≡ places_of (take l.stretch-index l.stretches)
