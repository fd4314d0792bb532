use Rattle.std.specs.Prelude.{length}
use Rattle.gufi_forms.proofs.Escapes.{reads_back}
use Rattle.gufi_forms.proofs.EscapedLines.{lines_back}
use Rattle.gufi_forms.proofs.laws.escaped_lines_read_back.Goals as goal

pub returns : goal.returns
returns c = record { texts = reads_back; lines = λ header select start rows some held. lines_back select.columns (length start) some rows held }
