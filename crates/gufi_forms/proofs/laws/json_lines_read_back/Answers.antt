use Rattle.std.specs.Prelude.{length}
use Rattle.gufi_forms.proofs.ObjectsBack.{lines_back}
use Rattle.gufi_forms.proofs.laws.json_lines_read_back.Goals as goal

pub returns : goal.returns
returns c = λ select start rows once held. lines_back select.columns once (length start) rows held
