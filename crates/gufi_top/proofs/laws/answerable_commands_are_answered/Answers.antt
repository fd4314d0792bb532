use Rattle.gufi_top.proofs.CompleteLemmas.{commands_answered}
use Rattle.gufi_top.proofs.laws.answerable_commands_are_answered.Goals as goal

pub returns : goal.returns
returns c = commands_answered
