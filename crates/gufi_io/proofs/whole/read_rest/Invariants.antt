use Rattle.std.proofs.Common.{◌≡◌, ◌≤◌, ◌+◌, ◌-◌, true}
use Rattle.gufi_io.specs.Whole.{IsTakenUpTo}
use Rattle.gufi_io.proofs.whole.read_rest.Given as goal

abbrev pub invariant-pieces : goal.invariant-pieces
invariant-pieces g l = record {
  in_hand : g.F.Shelf.in_hand l.shelf ≡ true;
  same : g.F.Shelf.files l.shelf ≡ g.F.Shelf.files l.fn.shelf;
  opens : g.F.Shelf.opens l.shelf ≡ g.F.Shelf.opens l.fn.shelf;
  faults : g.F.Shelf.faults l.fn.shelf ≤ g.F.Shelf.faults l.shelf;
  absents : g.F.Shelf.absents l.shelf ≡ g.F.Shelf.absents l.fn.shelf;
  taken : IsTakenUpTo (g.T.TakeBytes.has_taken l.fn.out) (g.F.Shelf.files l.fn.shelf) l.name (g.F.Shelf.left l.shelf) l.out l.size;
}

abbrev pub decreases-pieces : goal.decreases-pieces
decreases-pieces g l = l.max + 1 - l.size
