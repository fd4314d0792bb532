use Rattle.std.proofs.Common.{◌≤◌, length, drop}
use Rattle.gufi_users.specs.Places.{AreFirstFrom}
use Rattle.gufi_users.proofs.place.first_places.Given as goal

abbrev pub invariant-places : goal.invariant-places
invariant-places l = record {
  inside : l.place ≤ length l.numbers;
  first : AreFirstFrom l.place (drop l.place l.numbers) l.places;
}

abbrev pub decreases-places : goal.decreases-places
decreases-places l = l.place
