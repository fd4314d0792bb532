use Rattle.gufi_line.proofs.Counts.{few_lines}
use Rattle.gufi_line.proofs.lines.Lines.into_stanzas.Goals as goal

pub returns-clause-few : goal.returns-clause-few
returns-clause-few c = few_lines c.self.inside.stanzas c.self.invariant
