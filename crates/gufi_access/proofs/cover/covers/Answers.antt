use Rattle.gufi_access.specs.Access.{rights}
use Rattle.gufi_access.proofs.Suffice.{covers_exactly}
use Rattle.gufi_access.proofs.cover.covers.Goals as goal

pub returns-clause-exact : goal.returns-clause-exact
returns-clause-exact c = rw c.guards_cover.ensures (covers_exactly (rights c.args.d.now) (rights c.args.c.now))
