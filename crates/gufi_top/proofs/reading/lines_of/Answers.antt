use Rattle.gufi_top.proofs.ReadingLemmas.{lines_read}
use Rattle.gufi_top.proofs.reading.lines_of.Goals as goal

pub returns-in-Ok-clause-lines : goal.returns-in-Ok-clause-lines
returns-in-Ok-clause-lines c = λ stream read. lines_read _ _ stream c.in-Ok.lines (c.in-Ok.ensures.lines stream read)
