use Rattle.gufi_help.proofs.NumbersTold.{note_renumbered}
use Rattle.gufi_help.proofs.inserted.numbers_are_told_as_counted.Goals as goal

pub returns : goal.returns
returns c = note_renumbered
