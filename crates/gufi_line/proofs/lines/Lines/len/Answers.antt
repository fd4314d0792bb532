use Rattle.std.proofs.Common.{arith}
use Rattle.gufi_line.proofs.Counts.{few_lines}
use Rattle.gufi_line.proofs.lines.Lines.len.Goals as goal

pub returns-clause-few : goal.returns-clause-few
returns-clause-few c = omega (arith, c.len.ensures, few_lines c.self.inside.stanzas c.self.invariant)
