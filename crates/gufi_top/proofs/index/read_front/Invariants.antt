use Rattle.std.proofs.Common.{◌≡◌, ◌≤◌, ◌-◌, true, length}
use Rattle.gufi_io.specs.Files.{IsReadUpTo}
use Rattle.gufi_top.proofs.index.read_front.Given as goal

abbrev pub invariant-pieces : goal.invariant-pieces
invariant-pieces g l = record {
  in_hand : g.F.Shelf.in_hand l.shelf ≡ true;
  same : g.F.Shelf.files l.shelf ≡ g.F.Shelf.files l.fn.shelf;
  faults : g.F.Shelf.faults l.fn.shelf ≤ g.F.Shelf.faults l.shelf;
  absents : g.F.Shelf.absents l.fn.shelf ≤ g.F.Shelf.absents l.shelf;
  upto : IsReadUpTo (g.F.Shelf.files l.fn.shelf) l.name l.front.items (g.F.Shelf.left l.shelf);
}

abbrev pub decreases-pieces : goal.decreases-pieces
decreases-pieces g l = 6 - length l.front.items
