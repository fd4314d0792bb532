use Rattle.gufi_access.specs.Access.{rights}
use Rattle.gufi_roll.proofs.Laws.{covers-same}
use Rattle.gufi_roll.proofs.Open.{covers-open}
use Rattle.gufi_roll.proofs.below.covers_plainly.Goals as goal

pub returns-then-is_open : goal.returns-then-is_open
returns-then-is_open c = λ _. covers-open (rights c.args.parent.now) (rights c.args.child.now) (c.is_open.ensures c.if-is_open.true)

pub returns-else-is_open : goal.returns-else-is_open
returns-else-is_open c = λ same. covers-same (rights c.args.parent.now) (rights c.args.child.now) (c.are_alike.ensures same)
