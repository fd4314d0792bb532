use Rattle.gufi_base.proofs.Blocks.{no_bit, first_bit}
use Rattle.gufi_base.proofs.order.alike_at.Goals as goal

pub returns-then-unlike-eq0-clause-alike : goal.returns-then-unlike-eq0-clause-alike
returns-then-unlike-eq0-clause-alike g c = (no_bit c.args.a.now c.args.b.now c.args.at g.row.N c.requires.in_a c.requires.in_b c.requires.lanes c.if-unlike-eq0.true).1.0

pub returns-else-unlike-eq0-clause-within : goal.returns-else-unlike-eq0-clause-within
returns-else-unlike-eq0-clause-within g c = (first_bit c.args.a.now c.args.b.now c.args.at g.row.N c.requires.in_a c.requires.in_b c.requires.lanes c.if-unlike-eq0.false).0

pub returns-else-unlike-eq0-clause-alike : goal.returns-else-unlike-eq0-clause-alike
returns-else-unlike-eq0-clause-alike g c = (first_bit c.args.a.now c.args.b.now c.args.at g.row.N c.requires.in_a c.requires.in_b c.requires.lanes c.if-unlike-eq0.false).1.0

pub returns-else-unlike-eq0-clause-most : goal.returns-else-unlike-eq0-clause-most
returns-else-unlike-eq0-clause-most g c = (first_bit c.args.a.now c.args.b.now c.args.at g.row.N c.requires.in_a c.requires.in_b c.requires.lanes c.if-unlike-eq0.false).1.1
