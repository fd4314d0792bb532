use Rattle.std.proofs.Common.{arith}
use Rattle.gufi_line.proofs.Counts.{few_lines}
use Rattle.gufi_line.proofs.lines.Lines.push_dir.Goals as goal

pub push_dir-requires-clause-few : goal.push_dir-requires-clause-few
push_dir-requires-clause-few c = omega (arith, few_lines c.self.inside.stanzas c.self.invariant)
